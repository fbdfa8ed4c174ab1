pub mod Args
pub mod Drawing
pub mod Files
pub mod Free
pub mod Opened
pub mod Program
