mod Cells
pub mod Compared
pub mod Comparing
mod Composed
mod Compounds
mod CopyRows
pub mod Coursing
pub mod Different
mod FixedNames
mod FunctorRows
mod KeyRows
mod Keyed
pub mod Keying
mod Keys
pub mod ListAnswers
mod ListTerms
mod Making
pub mod Merging
pub mod MetVariables
pub mod OrderLaws
pub mod Owners
mod PartAnswers
mod Parts
pub mod Passing
pub mod Reading
pub mod Repeating
pub mod Rooms
pub mod Seeing
mod Selecting
pub mod SignTexts
pub mod Stacking
pub mod TermWalking
mod VariableLists
mod VariableWalking
mod Walked
pub mod Weaving
