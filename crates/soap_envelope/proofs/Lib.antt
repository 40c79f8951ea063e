pub mod Lists
pub mod NameFacts
pub mod BindingFacts
pub mod ScopeFacts
pub mod OnLiterals
pub mod Documents
pub mod PutFacts
pub mod FitFacts
pub mod ChildFacts
pub mod Apart
pub mod GoodNames
pub mod InScope
pub mod Standing
pub mod Places
pub mod PlainFacts
pub mod FaultPlaces
pub mod ReplySizes
pub mod FaultSizes
pub mod RelatedTexts
pub mod Nesting
pub mod MadeNames
pub mod MadeParts
pub mod MadeView
pub mod LawFacts
pub mod Bare
pub mod ResolvedPlaces
pub mod RootScope
pub mod ResolvedViews
pub mod Renamed
pub mod BoundNames
pub mod BodyScope
pub mod Usual
pub mod BodyNames
pub mod Declarations
pub mod Contents
pub mod Suffixes
pub mod Turning
pub mod Worked
mod WorkedMade
mod WorkedNames
mod WorkedVersions
mod WorkedResolved
pub mod WorkedRefusals
