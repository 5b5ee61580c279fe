use Rattle.std.proofs.Common.{◌≡◌, ◌^◌, ◌<◌, drop}
use Rattle.std.specs.Str.{all_ascii_digits}
use Rattle.words.specs.Words.{read}
use Rattle.words.proofs.numeral.Given as goal

abbrev pub invariant-loop-b : goal.invariant-loop-b
invariant-loop-b l = (l.value < 10 ^ l.b-index) × (all_ascii_digits (drop l.b-index l.text) ≡ all_ascii_digits l.text) × (read l.value (drop l.b-index l.text) ≡ read 0 l.text)
