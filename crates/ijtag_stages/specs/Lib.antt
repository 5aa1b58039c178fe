-- what is promised, in the order of reading
pub mod Work
pub mod Refusals
pub mod IclText
pub mod DeviceText
pub mod TablesText
pub mod SvfText
pub mod Elaborated
pub mod Connected
pub mod NetNames
pub mod Nested
pub mod Networks
pub mod Fitted
pub mod PdlText
pub mod Procedure
pub mod Laws
-- how the code goes
pub mod Seen
pub mod Follows
