pub mod ClaimAt
pub mod EachMark
pub mod MarkCause
pub mod WholeCause
pub mod VerdictByMarks
pub mod ShapeFound
pub mod ShapesApart
