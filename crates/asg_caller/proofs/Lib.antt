pub mod ThreeByThree
