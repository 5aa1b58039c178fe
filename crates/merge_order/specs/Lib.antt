-- the meaning
pub mod Merge
pub mod Feeding
pub mod BitSteps
-- laws and examples
pub mod Laws
pub mod MergeLaws
pub mod StepLaws
-- how the code goes
pub mod Insertion
pub mod Tables
pub mod RowsAround
pub mod Named
pub mod AllSteps
pub mod SeenJoins
pub mod SeenTurns
pub mod SeenFaults
pub mod SeenFeeder
pub mod Order
pub mod Seeing
pub mod Seen
pub mod SeenProgress
