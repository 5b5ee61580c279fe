-- What loops and faces say after a change, and the one loop of a face or the one face of a shell.
use Rattle.std.proofs.Common.{◌≡◌, ℕ, cond, T, eqb, ◌≢◌, List, map, length, set, is_some, Some, None, Option, sym, refl, ap, ◌∙◌}
use Rattle.std.specs.Option.{option_map}
use Rattle.std.proofs.lemmas.Bool.{eq-eqb, ne_eqb, cond-true, cond-false}
use Rattle.boundary.specs.declared.Loop.{Loop}
use Rattle.boundary.specs.declared.Face.{Face}
use Rattle.boundary.specs.declared.Boundary.{Boundary}
use Rattle.boundary.specs.Tables.{row, lone_of, face_of, shell_of, outer_of, loop_face, face_shell, faces_in, loops_in, in_face, in_shell, count}
use Rattle.boundary.specs.Changes.{inner_loop, merged_face}
use Rattle.boundary.specs.Operators.{face_in}
use Rattle.rules.specs.Rules.{Has}
use Rattle.rules.proofs.Rows.{has_row, row_has, row_map, has_below, has_put_other_in, has_put_again, row_put_same, row_put_other, length_put}
use Rattle.rules.proofs.Counts.{one_part, one_part_first, count_put_used}
use native.Mathlib.Decide.{ℕ_discrete}

-- the loops in f lie in g: lone vertices stay, and so does every other face
inner_lone_of : (f g : ℕ) (r : Option Loop) → lone_of (option_map (inner_loop f g) r) ≡ lone_of r
inner_lone_of f g None = refl
inner_lone_of f g (Some x) = refl

inner_face_of : (f g : ℕ) (r : Option Loop) → T (is_some r) → face_of (option_map (inner_loop f g) r) ≡ cond (eqb (face_of r) f) g (face_of r)
inner_face_of f g None u = absurd u
inner_face_of f g (Some x) u = refl

module _ (t : List (Option Loop)) (f g l : ℕ) where
  pub inner_lone : lone_of (row (map (option_map (inner_loop f g)) t) l) ≡ lone_of (row t l)
  inner_lone = ap lone_of (row_map (inner_loop f g) t l) ∙ inner_lone_of f g (row t l)

  pub inner_face : Has t l → face_of (row (map (option_map (inner_loop f g)) t) l) ≡ cond (eqb (face_of (row t l)) f) g (face_of (row t l))
  inner_face u = ap face_of (row_map (inner_loop f g) t l) ∙ inner_face_of f g (row t l) u

  pub inner_hit : Has t l → face_of (row t l) ≡ f → face_of (row (map (option_map (inner_loop f g)) t) l) ≡ g
  inner_hit u e = inner_face u ∙ cond-true (eqb (face_of (row t l)) f) g (face_of (row t l)) (eq-eqb (face_of (row t l)) f e)

  pub inner_miss : Has t l → face_of (row t l) ≢ f → face_of (row (map (option_map (inner_loop f g)) t) l) ≡ face_of (row t l)
  inner_miss u ne = inner_face u ∙ cond-false (eqb (face_of (row t l)) f) g (face_of (row t l)) (ne_eqb (face_of (row t l)) f ne)

-- a used loop by its face and its lone vertex
pub loop_row : (r : Option Loop) (o : Option ℕ) → T (is_some r) → lone_of r ≡ o → r ≡ Some (record { face = face_of r; lone = o })
loop_row None o u e = absurd u
loop_row (Some x) o u e = ap (λ i. Some (record { face = x.face; lone = i })) e

-- the loop l gets the lone vertex o, or none
abbrev pub with_lone : List (Option Loop) → ℕ → Option ℕ → List (Option Loop)
with_lone t l o = set t l (Some (record { face = face_of (row t l); lone = o }))

module _ (t : List (Option Loop)) (l : ℕ) (o : Option ℕ) where
  abbrev changed : Loop
  changed = record { face = face_of (row t l); lone = o }

  pub lone_has_in : (m : ℕ) → Has t m → Has (with_lone t l o) m
  lone_has_in m u = has_put_other_in t l m changed u

  pub lone_other_row : (m : ℕ) → m ≢ l → row (with_lone t l o) m ≡ row t m
  lone_other_row m ne = row_put_other t l m (Some changed) ne

  pub lone_length : length (with_lone t l o) ≡ length t
  lone_length = length_put t l (Some changed)

  module _ (old : Has t l) where
    pub lone_has_out : (m : ℕ) → Has (with_lone t l o) m → Has t m
    lone_has_out m u = has_put_again t l m changed old u

    pub lone_row : row (with_lone t l o) l ≡ Some changed
    lone_row = row_put_same t l (Some changed) (has_below t l old)

    pub lone_face : (m : ℕ) → face_of (row (with_lone t l o) m) ≡ face_of (row t m)
    lone_face m = elim (ℕ_discrete m l) [
      | yes e ↦ ap (λ i. face_of (row (with_lone t l o) i)) e ∙ ap face_of lone_row ∙ ap (λ i. face_of (row t i)) (sym e)
      | no ne ↦ ap face_of (lone_other_row m ne)
    ]

    pub lone_count : count (with_lone t l o) ≡ count t
    lone_count = count_put_used t l changed old

-- the faces in s lie in z: outer loops stay, and so does every other shell
merged_outer_of : (s z : ℕ) (r : Option Face) → outer_of (option_map (merged_face s z) r) ≡ outer_of r
merged_outer_of s z None = refl
merged_outer_of s z (Some x) = refl

merged_shell_of : (s z : ℕ) (r : Option Face) → T (is_some r) → shell_of (option_map (merged_face s z) r) ≡ cond (eqb (shell_of r) s) z (shell_of r)
merged_shell_of s z None u = absurd u
merged_shell_of s z (Some x) u = refl

module _ (t : List (Option Face)) (s z f : ℕ) where
  pub merged_outer : outer_of (row (map (option_map (merged_face s z)) t) f) ≡ outer_of (row t f)
  merged_outer = ap outer_of (row_map (merged_face s z) t f) ∙ merged_outer_of s z (row t f)

  pub merged_shell : Has t f → shell_of (row (map (option_map (merged_face s z)) t) f) ≡ cond (eqb (shell_of (row t f)) s) z (shell_of (row t f))
  merged_shell u = ap shell_of (row_map (merged_face s z) t f) ∙ merged_shell_of s z (row t f) u

  pub merged_hit : Has t f → shell_of (row t f) ≡ s → shell_of (row (map (option_map (merged_face s z)) t) f) ≡ z
  merged_hit u e = merged_shell u ∙ cond-true (eqb (shell_of (row t f)) s) z (shell_of (row t f)) (eq-eqb (shell_of (row t f)) s e)

  pub merged_miss : Has t f → shell_of (row t f) ≢ s → shell_of (row (map (option_map (merged_face s z)) t) f) ≡ shell_of (row t f)
  merged_miss u ne = merged_shell u ∙ cond-false (eqb (shell_of (row t f)) s) z (shell_of (row t f)) (ne_eqb (shell_of (row t f)) s ne)

-- of a face with one loop, each loop in it is that one
pub one_loop_in : (b : Boundary) (f l m : ℕ) → loops_in b f ≡ 1 → Has b.loops l → loop_face b l ≡ f → Has b.loops m → loop_face b m ≡ f → l ≡ m
one_loop_in b f l m one u p v q =
    let x = has_row b.loops l u in
    let y = has_row b.loops m v in
    one_part in_face b.loops f l m x.0 y.0 one x.1 (sym (ap face_of x.1) ∙ p) y.1 (sym (ap face_of y.1) ∙ q)

-- of a shell with one face, each face in it is that one
pub one_face_in : (b : Boundary) (s f g : ℕ) → faces_in b s ≡ 1 → Has b.faces f → face_shell b f ≡ s → Has b.faces g → face_shell b g ≡ s → f ≡ g
one_face_in b s f g one u p v q =
    let x = has_row b.faces f u in
    let y = has_row b.faces g v in
    one_part in_shell b.faces s f g x.0 y.0 one x.1 (sym (ap shell_of x.1) ∙ p) y.1 (sym (ap shell_of y.1) ∙ q)

pub face_in_is : (b : Boundary) (s : ℕ) → faces_in b s ≡ 1 → Has b.faces (face_in b s) × (face_shell b (face_in b s) ≡ s)
face_in_is b s one =
    let x = one_part_first in_shell b.faces s one in
    (row_has b.faces (face_in b s) x.0 x.1, ap shell_of x.1 ∙ x.2)
