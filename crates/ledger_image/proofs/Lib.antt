pub mod LegLaws
pub mod LedgerLaws
pub mod LegUndo
pub mod LedgerUndo
