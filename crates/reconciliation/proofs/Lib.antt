pub mod ReconcileLaws
pub mod ReconcileOutcomeLaws
pub mod RecordColumns
