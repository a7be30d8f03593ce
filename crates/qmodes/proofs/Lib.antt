pub mod Most
pub mod ScanFalls
pub mod MostFalls
pub mod SlowestFalls
pub mod Ends
