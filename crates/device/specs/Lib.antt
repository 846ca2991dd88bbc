pub mod Effect
pub mod Names
pub mod Data
pub mod Execute
-- what only private functions promise: a reader who believes only the public contracts can stop here
-- type Plan: response Responses, change Change
pub mod Inside
