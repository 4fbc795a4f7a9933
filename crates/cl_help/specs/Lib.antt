pub mod Topic
