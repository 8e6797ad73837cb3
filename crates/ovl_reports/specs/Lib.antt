pub mod Directories
pub mod LayerReports
pub mod Listings
pub mod Reports
pub mod Shares
pub mod VacuumReports
