-- the meaning
pub mod Labels
pub mod Plan
pub mod Pens
pub mod Layout
pub mod Met
pub mod Drawing
pub mod Captures
pub mod Svg
pub mod Dot
-- laws and examples
pub mod Examples
-- how the code goes
pub mod Walk
pub mod There
pub mod Whole
pub mod Apart
pub mod Marked
pub mod Rows
pub mod Line
pub mod Outline
pub mod Edges
pub mod Said
pub mod ReadGraph
