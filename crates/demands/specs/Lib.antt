-- What the demands of document 00 and the points of document 02 ask to be proved, a record for each and a field for each sentence.
pub mod Demands
pub mod Numbers
