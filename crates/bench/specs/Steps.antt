-- The calls that a list of acts makes, with their answers.
use Rattle.std.specs.Prelude.{List, [], ◌∷◌, replicate, Some, None, Ok, Err, Option, Result}
use Rattle.disk.specs.declared.Content.{Content}
use Rattle.disk.specs.declared.Content.TheVariants.{Unreadable}
use Rattle.disk.specs.declared.DiskFault.{DiskFault}
use Rattle.disk.specs.Calls.{Call, reading, writing, flushing}
use Rattle.bench.specs.declared.Act.{Act}
use Rattle.bench.specs.declared.Act.TheVariants.{Write, Read, Flush}
use Rattle.bench.specs.declared.Answer.{Answer}

-- the answer of a write or a flush
abbrev pub plain_answer : Result (Option Content) DiskFault → Result (Unit {0}) DiskFault
plain_answer (Ok x) = Ok tt
plain_answer (Err f) = Err f

-- the answer of a read
abbrev pub read_answer : Result (Option Content) DiskFault → Result Content DiskFault
read_answer (Ok None) = Ok Unreadable
read_answer (Ok (Some x)) = Ok x
read_answer (Err f) = Err f

-- the call that an act makes, with its answer; a write fills the block with one byte
abbrev pub call_of : Act → Answer → Call
call_of (Write k b) a = writing k (replicate 32 b) (plain_answer a.0)
call_of (Read k) a = reading k (read_answer a.0)
call_of Flush a = flushing (plain_answer a.0)

-- the calls of a list of acts with their answers
abbrev pub calls_of : List Act → List Answer → List Call
calls_of [] ys = []
calls_of (x ∷ xs) [] = []
calls_of (x ∷ xs) (a ∷ ys) = call_of x a ∷ calls_of xs ys
