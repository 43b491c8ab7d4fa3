pub mod Fuel
pub mod Rising
pub mod Steady
pub mod Trees
