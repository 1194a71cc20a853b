mod SquareParts
