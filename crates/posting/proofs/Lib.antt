pub mod BalanceLaws
pub mod HintLaws
pub mod LineLaws
pub mod PostLaws
pub mod TurnLaws
pub mod WorkLaws
