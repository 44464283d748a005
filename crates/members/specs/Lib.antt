-- Document 01, section Layout: the given members are lent as a list of records.
pub mod Claims
pub mod Members
