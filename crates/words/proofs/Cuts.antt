-- The first piece of a cut, and the first token of a line.
use Rattle.std.proofs.Common.{◌≡◌, ℕ, suc, ◌+◌, ◌-◌, ◌<◌, ◌≤◌, Bool, true, false, cond, not, eqb, List, [], ◌∷◌, map, length, take, drop, ℤ, Option, Some, None, sym, refl, ap, ◌∙◌, ap₂, add-zero, add_assoc, one-add, arith}
use Rattle.std.proofs.lemmas.List.{take_all, drop_all, drop_more, drop-drop, take_rest, length-take-le, length-drop}
use Rattle.std.proofs.lemmas.List.Sums.{prefix_len-le-length}
use Rattle.std.proofs.lemmas.Bool.Decides.{nat_tests}
use Rattle.std.specs.List.{position, position_or_len}
use Rattle.std.specs.Option.{unwrap_or}
use Rattle.words.specs.Words.{Part, onto, cut, lines, filled, words, placed, tokens, number}

-- what `position` found
pub found : {X : Type 0} (p : X → Bool) (xs : List X) (n : ℕ) → Some n ≡ position p xs → (n ≡ position_or_len p xs) × (n < length xs)
found p xs n e = grind (arith, nat_tests)

pub not_found : {X : Type 0} (p : X → Bool) (xs : List X) → None ≡ position p xs → length xs ≤ position_or_len p xs
not_found p xs e = grind (arith, nat_tests)

pub found_or : {X : Type 0} (p : X → Bool) (xs : List X) (r : Option ℕ) → r ≡ position p xs → unwrap_or r (length xs) ≡ position_or_len p xs
found_or p xs r e = grind (arith, nat_tests, prefix_len-le-length)

-- how many bytes stand before the first c
abbrev pub before : ℕ → List ℕ → ℕ
before c bs = position_or_len (λ b. eqb b c) bs

-- the pieces behind a byte c that ends a piece, if there is one
abbrev pub behind : ℕ → List ℕ → List (List ℕ)
behind c [] = []
behind c (b ∷ bs) = cut c bs

pub split : (c : ℕ) (bs : List ℕ) → cut c bs ≡ take (before c bs) bs ∷ behind c (drop (before c bs) bs)
split c [] = refl
split c (b ∷ bs) = go (split c bs) (eqb b c)
  where
    go : cut c bs ≡ take (before c bs) bs ∷ behind c (drop (before c bs) bs) → (t : Bool) → cond t ([] ∷ cut c bs) (onto b (cut c bs)) ≡ take (cond (not t) (1 + before c bs) 0) (b ∷ bs) ∷ behind c (drop (cond (not t) (1 + before c bs) 0) (b ∷ bs))
    go e true = refl
    go e false = rw (e, one-add)

-- the first line, where a line feed ends it
pub line_then : (bs : List ℕ) (n : ℕ) → Some n ≡ position (λ b. eqb b 10) bs → lines bs ≡ take n bs ∷ lines (take (length bs - (n + 1)) (drop (n + 1) bs))
line_then bs n e =
    let here = found (λ b. eqb b 10) bs n e in
    let rest : behind 10 (drop n bs) ≡ lines (take (length bs - (n + 1)) (drop (n + 1) bs)) = ap (behind 10) (drop_more bs n 0 here.1) ∙ ap (cut 10) (sym (take_rest bs (n + 1))) in
    split 10 bs ∙ rw (← here.0) (ap (λ x. take n bs ∷ x) rest)

-- the last line
pub line_else : (bs : List ℕ) → None ≡ position (λ b. eqb b 10) bs → lines bs ≡ bs ∷ []
line_else bs e =
    let all = not_found (λ b. eqb b 10) bs e in
    split 10 bs ∙ ap₂ (λ x y. x ∷ y) (take_all (before 10 bs) bs all) (ap (behind 10) (drop_all (before 10 bs) bs all))

-- how many spaces stand in front
abbrev pub spaces : List ℕ → ℕ
spaces bs = position_or_len (λ b. not (eqb b 32)) bs

skip : (n : ℕ) (bs : List ℕ) → tokens n bs ≡ tokens (n + spaces bs) (drop (spaces bs) bs)
skip n [] = refl
skip n (b ∷ bs) = go (eqb b 32) refl (skip (n + 1) bs)
  where
    go : (t : Bool) → eqb b 32 ≡ t → tokens (n + 1) bs ≡ tokens (n + 1 + spaces bs) (drop (spaces bs) bs) → placed n (cond t ([] ∷ cut 32 bs) (onto b (cut 32 bs))) ≡ tokens (n + cond (not (not t)) (1 + spaces bs) 0) (drop (cond (not (not t)) (1 + spaces bs) 0) (b ∷ bs))
    go true e ih = ih ∙ rw (add_assoc n 1 (spaces bs), one-add (spaces bs))
    go false e ih = rw (add-zero n, e)

no_space : (bs : List ℕ) → spaces (drop (spaces bs) bs) ≡ 0
no_space [] = refl
no_space (b ∷ bs) = go (eqb b 32) refl (no_space bs)
  where
    go : (t : Bool) → eqb b 32 ≡ t → spaces (drop (spaces bs) bs) ≡ 0 → spaces (drop (cond (not (not t)) (1 + spaces bs) 0) (b ∷ bs)) ≡ 0
    go true e ih = rw one-add ih
    go false e ih = rw e

-- behind a word stands a space, or nothing
on : (m : ℕ) (bs : List ℕ) → placed (m + 1) (behind 32 (drop (before 32 bs) bs)) ≡ tokens m (drop (before 32 bs) bs)
on m [] = refl
on m (b ∷ bs) = go (eqb b 32) refl (on m bs)
  where
    go : (t : Bool) → eqb b 32 ≡ t → placed (m + 1) (behind 32 (drop (before 32 bs) bs)) ≡ tokens m (drop (before 32 bs) bs) → placed (m + 1) (behind 32 (drop (cond (not t) (1 + before 32 bs) 0) (b ∷ bs))) ≡ tokens m (drop (cond (not t) (1 + before 32 bs) 0) (b ∷ bs))
    go true e ih = rw e
    go false e ih = rw one-add ih

-- the first token of what begins with no space
next : (n : ℕ) (bs : List ℕ) → 0 < length bs → spaces bs ≡ 0 → tokens n bs ≡ record { place = n; text = take (before 32 bs) bs; value = number (take (before 32 bs) bs) } ∷ tokens (n + before 32 bs) (drop (before 32 bs) bs)
next n [] some none = absurd (omega arith)
next n (b ∷ bs) some none = go (eqb b 32) refl none
  where
    go : (t : Bool) → eqb b 32 ≡ t → cond (not (not t)) (1 + spaces bs) 0 ≡ 0 → placed n (cond t ([] ∷ cut 32 bs) (onto b (cut 32 bs))) ≡ record { place = n; text = take (cond (not t) (1 + before 32 bs) 0) (b ∷ bs); value = number (take (cond (not t) (1 + before 32 bs) 0) (b ∷ bs)) } ∷ tokens (n + cond (not t) (1 + before 32 bs) 0) (drop (cond (not t) (1 + before 32 bs) 0) (b ∷ bs))
    go true e z = absurd (omega arith)
    go false e z = rw (split 32 bs, one-add (before 32 bs), ← on (n + suc (before 32 bs)) bs, length-take-le (before 32 bs) bs (prefix_len-le-length _ bs))

-- the texts of the tokens are the words
pub texts : (n : ℕ) (ps : List (List ℕ)) → map (λ p. p.text) (placed n ps) ≡ filled ps
texts n [] = refl
texts n ([] ∷ ps) = texts (n + 1) ps
texts n ((b ∷ p) ∷ ps) = ap (λ x. (b ∷ p) ∷ x) (texts (n + length (b ∷ p) + 1) ps)

-- the words of a line whose tokens from the place n on are known
words_of : (n : ℕ) (bs : List ℕ) (ts : List Part) → tokens n bs ≡ ts → words bs ≡ map (λ p. p.text) ts
words_of n bs ts e = sym (texts n (cut 32 bs)) ∙ ap (map (λ p. p.text)) e

-- the rest of a line from the byte n on
module _ (bs : List ℕ) (n : ℕ) where
  -- nothing but spaces is left
  pub none_left : None ≡ position (λ b. not (eqb b 32)) (take (length bs - n) (drop n bs)) → (tokens n (drop n bs) ≡ []) × (words (drop n bs) ≡ [])
  none_left e =
      let all = not_found (λ b. not (eqb b 32)) (drop n bs) (rw take_rest at e) in
      let none = skip n (drop n bs) ∙ ap (tokens _) (drop_all (spaces (drop n bs)) (drop n bs) all) in
      (none, words_of n (drop n bs) [] none)

  -- the token of r bytes behind g spaces
  module _ (g r : ℕ) (v : Option ℤ) where
    abbrev rest : List ℕ
    rest = take (length bs - (n + g)) (drop (n + g) bs)

    pub taken : Some g ≡ position (λ b. not (eqb b 32)) (take (length bs - n) (drop n bs)) → r ≡ before 32 rest → v ≡ number (take r rest)
        → (tokens n (drop n bs) ≡ record { place = n + g; text = take r rest; value = v } ∷ tokens (n + g + r) (drop (n + g + r) bs))
        × (words (drop n bs) ≡ take r rest ∷ words (drop (n + g + r) bs))
        × (take r rest ≡ take (length (take r rest)) (drop (n + g) bs))
        × (n + g + r ≤ length bs)
    taken e size value =
        let here = found (λ b. not (eqb b 32)) (drop n bs) g (rw take_rest at e) in
        let all_of : rest ≡ drop (n + g) bs = take_rest bs (n + g) in
        let long : r ≡ before 32 (drop (n + g) bs) = size ∙ ap (before 32) all_of in
        let within : r ≤ length (drop (n + g) bs) = omega (arith, long, prefix_len-le-length (λ b. not (eqb b 32)) (drop (n + g) bs)) in
        let some : 0 < length (drop (n + g) bs) = omega (arith, here.1, length-drop n bs, length-drop (n + g) bs) in
        let ends : n + g + r ≤ length bs = omega (arith, within, some, length-drop (n + g) bs) in
        let to : drop g (drop n bs) ≡ drop (n + g) bs = drop-drop g n bs in
        let none : spaces (drop (n + g) bs) ≡ 0 = rw (← to, here.0) (no_space (drop n bs)) in
        let skipped : tokens n (drop n bs) ≡ tokens (n + g) (drop (n + g) bs) = skip n (drop n bs) ∙ rw (← here.0, to) in
        let all = skipped ∙ rw (value, all_of, ← drop-drop r (n + g) bs, long) (next (n + g) (drop (n + g) bs) some none) in
        let left = texts (n + g + r) (cut 32 (drop (n + g + r) bs)) in
        (all, words_of n (drop n bs) _ all ∙ ap (λ ws. take r rest ∷ ws) left, rw (all_of, length-take-le r (drop (n + g) bs) within), ends)
