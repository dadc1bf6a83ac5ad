pub mod FileShelf
pub mod Program
pub mod Stream
