pub mod PremisesProof
