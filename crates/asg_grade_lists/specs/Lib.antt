pub mod GradeLists
