pub mod PackedLaws
pub mod WideLaws
