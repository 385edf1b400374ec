pub mod Answers
pub mod Files
pub mod Queue
pub mod Watched
