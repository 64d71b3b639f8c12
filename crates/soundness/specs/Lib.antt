pub mod OnTime
pub mod HeadlineLaws
pub mod ModuleLaws
pub mod MigrationLaws
pub mod FirstFaults
pub mod PlainCertificates
