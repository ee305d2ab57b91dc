pub mod Cutting
pub mod Figures
pub mod Lining
pub mod Spacing
