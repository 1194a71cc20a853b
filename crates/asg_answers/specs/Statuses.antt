-- How a run ends.
use Rattle.std.specs.Prelude.{ℕ}
use Rattle.asg_answers.specs.declared.status.Status.{Status}
use Rattle.asg_answers.specs.declared.status.Status.TheVariants.{Done, Nothing, Usage, Instance, Script}
use Rattle.asg_answers.specs.declared.status.Status.TheVariants.{Document, No, ReadFault, WriteFault}
use Rattle.asg_answers.specs.declared.status.Status.TheVariants.{NoMemory, TooLong}

-- the exit status of the process
abbrev pub code_of : Status → ℕ
code_of Done = 0
code_of Nothing = 1
code_of Usage = 2
code_of Instance = 3
code_of Script = 4
code_of Document = 5
code_of No = 6
code_of ReadFault = 7
code_of WriteFault = 8
code_of NoMemory = 9
code_of TooLong = 10

-- the status of a run that neither a fault nor want of memory cut short
abbrev pub IsAnswer : Status → Type 0
IsAnswer ReadFault = ⊥
IsAnswer WriteFault = ⊥
IsAnswer NoMemory = ⊥
IsAnswer _ = Unit {0}

-- the status of a run that read all files of its request
abbrev pub HasRead : Status → Type 0
HasRead Done = Unit {0}
HasRead Nothing = Unit {0}
HasRead Instance = Unit {0}
HasRead Script = Unit {0}
HasRead Document = Unit {0}
HasRead No = Unit {0}
HasRead _ = ⊥

-- a status whose text is one: no document is written with it, of which several may serve
abbrev pub HasOneText : Status → Type 0
HasOneText Done = ⊥
HasOneText Nothing = ⊥
HasOneText _ = Unit {0}
