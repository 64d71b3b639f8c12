mod OneAnswer
mod OneValue
mod OneListing
mod OneReport
mod SomeAnswer
mod SomeReport
mod PassingTexts
mod FailingTexts
mod SomeRun
mod Designs
mod FewWires
mod AcceptedTexts
pub mod FourthLines
pub mod YesIsRight
pub mod PlainTexts
pub mod YesIsRightInFull
mod PlainLines
pub mod SmallDesigns
pub mod Migrations
mod FullJobs
mod Written
mod WrittenCircuits
mod WrittenLayouts
mod WrittenDesigns
mod WrittenNames
mod ReadDesigns
mod MovedPlanes
mod MovedLines
mod MovedRuns
mod MovedRims
mod MovedDesigns
mod StillMirrors
mod Printed
pub mod YesIsPrinted
mod AcceptedMigrations
pub mod Imports
mod Fronts
