pub mod Children
pub mod Combined
pub mod MentionedNames
pub mod SetMark
pub mod MarkedTrees
pub mod Marks
pub mod WalkSteps
pub mod PreorderPaths
pub mod PathLists
pub mod PatternTexts
pub mod PatternSound
pub mod PatternTrees
pub mod PatternAdds
pub mod PatternOrder
pub mod LinkedPatterns
pub mod FoundMarks
pub mod AcceptedPaths
pub mod EmptyVisits
pub mod SortedNames
pub mod Singles
mod PathSpans
mod EnteredMarks
pub mod WalkedMarks
mod MarkWalks
mod MarkWalkLists
mod SortedMarks
