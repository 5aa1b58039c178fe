-- the meaning
pub mod Pieces
pub mod Token
pub mod Cutting
pub mod Seen
pub mod Tokens
pub mod Words
pub mod Values
pub mod Grammar
pub mod Modules
-- laws and examples
pub mod Laws
pub mod Examples
-- how the code goes
pub mod States
pub mod Matches
pub mod Answers
pub mod Lexemes
pub mod Held
pub mod Views
