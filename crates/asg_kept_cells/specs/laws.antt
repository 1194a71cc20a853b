pub mod KeptSquares
