pub mod Lists
pub mod ClauseLaws
