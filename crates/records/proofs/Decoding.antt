-- What a block means, by the tests of its parts.
use Rattle.std.proofs.Common.{◌≡◌, ℕ, ◌≤◌, Bool, true, false, cond, ◌&&◌, eqb, leb, List, Some, None, sym, ap, ◌∙◌, arith}
use Rattle.std.proofs.lemmas.Bool.{le-leb, ne_eqb, and_left}
use Rattle.records.specs.declared.Block.{Block}
use Rattle.records.specs.declared.Record.{Record}
use Rattle.records.specs.declared.Record.TheVariants.{Change, Closing}
use Rattle.records.specs.Blocks.{parts}
use Rattle.records.specs.Records.{meaning, record_of, numbered, rest_zero, is_change, is_closing, edit_of}

pub meant : (bs : List ℕ) (b : Block) → b ≡ parts bs → record_of bs ≡ meaning b
unfolding record_of
meant bs b e = ap meaning (sym e)

pub is_operator : (k : ℕ) → 1 ≤ k → k ≤ 10 → (leb 1 k && leb k 10) ≡ true
is_operator k lo hi = rw (le-leb 1 k lo, le-leb k 10 hi)

-- the operators' kinds are not the closing one
no_closing : (b : Block) → b.kind ≤ 10 → is_closing b ≡ false
no_closing b h = and_left (eqb b.kind 100) (numbered 1 16 b && rest_zero b) (ne_eqb b.kind 100 (λ e. omega arith))

pub change_meant : (b : Block) → 1 ≤ b.kind → b.kind ≤ 10 → numbered 0 15 b ≡ true → rest_zero b ≡ true → meaning b ≡ Some (Change b.number b.position (edit_of b.kind b.fields b.at))
change_meant b lo hi n z = choice (is_closing b) (is_change b) _ _ (no_closing b hi) all
  where
    all : is_change b ≡ true
    all = ap (λ t. t && (numbered 0 15 b && rest_zero b)) (is_operator b.kind lo hi) ∙ ap (λ t. t && rest_zero b) n ∙ z

    choice : (t u : Bool) (x y : Record) → t ≡ false → u ≡ true → cond t (Some x) (cond u (Some y) None) ≡ Some y
    choice t u x y p q = rw (p, q)

pub closing_meant : (b : Block) → b.kind ≡ 100 → numbered 1 16 b ≡ true → rest_zero b ≡ true → meaning b ≡ Some (Closing b.number b.position)
closing_meant b k n z = choice (is_closing b) (is_change b) _ _ all
  where
    all : is_closing b ≡ true
    all = ap (λ t. eqb t 100 && (numbered 1 16 b && rest_zero b)) k ∙ ap (λ t. t && rest_zero b) n ∙ z

    choice : (t u : Bool) (x y : Record) → t ≡ true → cond t (Some x) (cond u (Some y) None) ≡ Some x
    choice t u x y p = rw p
