-- How the command is used, which command lines ask for plan and convert, examples, and the exit status.
pub mod Claims
pub mod Examples
pub mod Status
pub mod Usage
