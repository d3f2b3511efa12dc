-- Document 01, "Characters": the state table. Assumes nothing.
use Rattle.std.specs.Prelude.{ℕ, List, [], ◌∷◌, Bool}
use Rattle.text.specs.Characters.{A, C, D, E, F, G, H, I, J, K, L, M, N, O, P, R, S, letter_t, U, letter_v, W, X, Y, Z}
use Rattle.text.specs.Fields.{is_one_of}

-- state table (54)
unfoldable pub state_table : List (List ℕ)
state_table =
    (A ∷ K ∷ []) ∷ (A ∷ L ∷ []) ∷ (A ∷ R ∷ []) ∷ (A ∷ Z ∷ []) ∷ (C ∷ A ∷ []) ∷ (C ∷ O ∷ []) ∷
    (C ∷ letter_t ∷ []) ∷ (D ∷ C ∷ []) ∷ (D ∷ E ∷ []) ∷ (F ∷ L ∷ []) ∷ (G ∷ A ∷ []) ∷ (G ∷ U ∷ []) ∷
    (H ∷ I ∷ []) ∷ (I ∷ A ∷ []) ∷ (I ∷ D ∷ []) ∷ (I ∷ L ∷ []) ∷ (I ∷ N ∷ []) ∷ (K ∷ S ∷ []) ∷
    (K ∷ Y ∷ []) ∷ (L ∷ A ∷ []) ∷ (M ∷ A ∷ []) ∷ (M ∷ D ∷ []) ∷ (M ∷ E ∷ []) ∷ (M ∷ I ∷ []) ∷
    (M ∷ N ∷ []) ∷ (M ∷ O ∷ []) ∷ (M ∷ S ∷ []) ∷ (M ∷ letter_t ∷ []) ∷ (N ∷ C ∷ []) ∷ (N ∷ D ∷ []) ∷
    (N ∷ E ∷ []) ∷ (N ∷ H ∷ []) ∷ (N ∷ J ∷ []) ∷ (N ∷ M ∷ []) ∷ (N ∷ letter_v ∷ []) ∷ (N ∷ Y ∷ []) ∷
    (O ∷ H ∷ []) ∷ (O ∷ K ∷ []) ∷ (O ∷ R ∷ []) ∷ (P ∷ A ∷ []) ∷ (P ∷ R ∷ []) ∷ (R ∷ I ∷ []) ∷
    (S ∷ C ∷ []) ∷ (S ∷ D ∷ []) ∷ (letter_t ∷ N ∷ []) ∷ (letter_t ∷ X ∷ []) ∷ (U ∷ letter_t ∷ []) ∷ (letter_v ∷ A ∷ []) ∷
    (letter_v ∷ I ∷ []) ∷ (letter_v ∷ letter_t ∷ []) ∷ (W ∷ A ∷ []) ∷ (W ∷ I ∷ []) ∷ (W ∷ letter_v ∷ []) ∷ (W ∷ Y ∷ []) ∷ []

-- in the state table; what is not two bytes is not
unfoldable pub is_state : List ℕ → Bool
is_state s = is_one_of s state_table
