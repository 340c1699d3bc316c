-- What the desk keeps
pub mod Bits
pub mod Views
pub mod Keeps
pub mod Runs
-- What is proved of the desk
pub mod DemandOne
pub mod DemandTwo
pub mod DemandThree
pub mod Cases
-- The trace check
pub mod AuditLaws
pub mod Tally
pub mod Writable
pub mod AuditAnswers
pub mod AuditRuns
pub mod AuditTheorems
