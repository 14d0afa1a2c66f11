-- How many entries stand before a thread after each change of a queue, and whom a walk finds of them.
use Prim.Native.Nat.{ℕ, suc, ◌+◌, ◌<◌, ◌≤◌}
use mathlib.Core.Path.{◌≡◌, refl, sym, ap, ◌∙◌}
use mathlib.Core.Bool.{Bool, true, false}
use mathlib.Core.Logic.{◌≢◌}
use mathlib.Core.List.{List, [], ◌∷◌, ◌++◌}
use native.Mathlib.Omega.{arith}
use lib.ListN.{length}
use lib.Dec.{eqb}
use borrow.Author.Tests.{eq-eqb, ne_eqb, eqb-true}
use Rattle.waker.specs.Context.{thread, word_in}
use Rattle.waker.specs.Waker.{without, may_pick, oldest}
use Rattle.waker.specs.declared.context.Thread.{Thread}
use Rattle.waker.specs.declared.context.Context.{Context}
use Rattle.waker.specs.declared.context.Selected.TheVariants.{Waiting}
use Rattle.std.specs.Prelude.{not, Some, None, if◌then◌else◌}
use Rattle.forms.specs.FormWaits.{times_in}
use Rattle.handover.specs.Statement.{ahead_of}

-- Who joins a queue that it doesn't stand in has all of it ahead.
pub ahead_joined : (t : Thread) (l : List Thread) → times_in t.0 l ≡ 0 → ahead_of t.0 (l ++ (t ∷ [])) ≡ length l
unfolding ahead_of times_in
ahead_joined t [] h = rw (eq-eqb t.0 t.0 refl)
ahead_joined t (e ∷ l) h = go (eqb e.0 t.0) h (ahead_joined t l)
  where
    go : (b : Bool) → (if b then 1 else 0) + times_in t.0 l ≡ 0 →
        (times_in t.0 l ≡ 0 → ahead_of t.0 (l ++ (t ∷ [])) ≡ length l) →
        (if b then 0 else suc (ahead_of t.0 (l ++ (t ∷ [])))) ≡ suc (length l)
    go true h i = absurd (omega arith)
    go false h i = ap suc (i (omega arith))

pub ahead_joined_other : (t : Thread) (u : ℕ) (l : List Thread) → 0 < times_in u l → ahead_of u (l ++ (t ∷ [])) ≡ ahead_of u l
unfolding ahead_of times_in
ahead_joined_other t u [] h = absurd (omega arith)
ahead_joined_other t u (e ∷ l) h = go (eqb e.0 u) h (ahead_joined_other t u l)
  where
    go : (b : Bool) → 0 < (if b then 1 else 0) + times_in u l → (0 < times_in u l → ahead_of u (l ++ (t ∷ [])) ≡ ahead_of u l) →
        (if b then 0 else suc (ahead_of u (l ++ (t ∷ [])))) ≡ (if b then 0 else suc (ahead_of u l))
    go true h i = refl
    go false h i = ap suc (i (omega arith))

-- Who leaves a queue adds nothing ahead of the others,
pub ahead_left : (v : Thread) (u : ℕ) (l : List Thread) → u ≢ v.0 → ahead_of u (without v l) ≤ ahead_of u l
unfolding ahead_of
ahead_left v u [] n = omega arith
ahead_left v u (e ∷ l) n = go (eqb e.0 v.0) (eqb e.0 u) refl refl (ahead_left v u l n)
  where
    go : (b c : Bool) → eqb e.0 v.0 ≡ b → eqb e.0 u ≡ c → ahead_of u (without v l) ≤ ahead_of u l →
        ahead_of u (if not b then e ∷ without v l else without v l) ≤ (if c then 0 else suc (ahead_of u l))
    go true true p q i = absurd (n (sym (eqb-true e.0 u q) ∙ eqb-true e.0 v.0 p))
    go true false p q i = omega arith
    go false true p q i = rw q (omega arith)
    go false false p q i = rw q (omega arith)

-- and one less ahead of those that it stood before.
pub ahead_less : (v : Thread) (u : ℕ) (l : List Thread) → u ≢ v.0 → ahead_of v.0 l ≤ ahead_of u l → 0 < times_in v.0 l →
    suc (ahead_of u (without v l)) ≤ ahead_of u l
unfolding ahead_of times_in
ahead_less v u [] n h z = absurd (omega arith)
ahead_less v u (e ∷ l) n h z =
    go (eqb e.0 v.0) (eqb e.0 u) refl refl h z (ahead_less v u l n)
  where
    go : (b c : Bool) → eqb e.0 v.0 ≡ b → eqb e.0 u ≡ c →
        (if b then 0 else suc (ahead_of v.0 l)) ≤ (if c then 0 else suc (ahead_of u l)) →
        0 < (if b then 1 else 0) + times_in v.0 l →
        (ahead_of v.0 l ≤ ahead_of u l → 0 < times_in v.0 l → suc (ahead_of u (without v l)) ≤ ahead_of u l) →
        suc (ahead_of u (if not b then e ∷ without v l else without v l)) ≤ (if c then 0 else suc (ahead_of u l))
    go true true p q h z i = absurd (n (sym (eqb-true e.0 u q) ∙ eqb-true e.0 v.0 p))
    go true false p q h z i = omega (arith, ahead_left v u l n)
    go false true p q h z i = absurd (omega arith)
    go false false p q h z i = rw q (omega (arith, i (omega arith) (omega arith)))

-- Entries with as many ahead are of one thread.
pub same_entry : (v t : ℕ) (l : List Thread) → 0 < times_in v l → 0 < times_in t l → ahead_of v l ≡ ahead_of t l → v ≡ t
unfolding times_in ahead_of
same_entry v t [] a b e = absurd (omega arith)
same_entry v t (x ∷ l) a b e = go (eqb x.0 v) (eqb x.0 t) refl refl a b e (same_entry v t l)
  where
    go : (c d : Bool) → eqb x.0 v ≡ c → eqb x.0 t ≡ d → 0 < (if c then 1 else 0) + times_in v l →
        0 < (if d then 1 else 0) + times_in t l → (if c then 0 else suc (ahead_of v l)) ≡ (if d then 0 else suc (ahead_of t l)) →
        (0 < times_in v l → 0 < times_in t l → ahead_of v l ≡ ahead_of t l → v ≡ t) → v ≡ t
    go true true f g a b e i = sym (eqb-true x.0 v f) ∙ eqb-true x.0 t g
    go true false f g a b e i = absurd (omega arith)
    go false true f g a b e i = absurd (omega arith)
    go false false f g a b e i = i (omega arith) (omega arith) (omega arith)

-- A walk by c may pick every other thread whose word is Waiting,
module _ (c : Thread) (ws : List Context) (u : ℕ) (other : u ≢ c.0) (waiting : word_in ws (thread u) ≡ Waiting) where
  fits : (e : Thread) → e.0 ≡ u → may_pick c ws e ≡ true
  fits e s = rw (ne_eqb e.0 c.0 (λ p. other (sym s ∙ p))) (rw s (rw waiting))

  -- so none of these stands before whom it finds,
  pub oldest_least : (v : Thread) (l : List Thread) → oldest c ws l ≡ Some v → 0 < times_in u l → ahead_of v.0 l ≤ ahead_of u l
  unfolding ahead_of times_in
  oldest_least v [] f h = absurd (omega arith)
  oldest_least v (e ∷ l) f h =
      go (may_pick c ws e) (eqb e.0 u) refl refl f h (oldest_least v l)
    where
      go : (a b : Bool) → may_pick c ws e ≡ a → eqb e.0 u ≡ b → (if a then Some e else oldest c ws l) ≡ Some v →
          0 < (if b then 1 else 0) + times_in u l → (oldest c ws l ≡ Some v → 0 < times_in u l → ahead_of v.0 l ≤ ahead_of u l) →
          (if eqb e.0 v.0 then 0 else suc (ahead_of v.0 l)) ≤ (if b then 0 else suc (ahead_of u l))
      go true b p q f h i =
          let s : e ≡ v = cc in
          rw (eq-eqb e.0 v.0 (ap (λ (x : Thread). x.0) s)) (omega arith)
      go false true p q f h i = cc (fits e (eqb-true e.0 u q))
      go false false p q f h i = least (eqb e.0 v.0) (i f (omega arith))
        where
          least : (d : Bool) → ahead_of v.0 l ≤ ahead_of u l → (if d then 0 else suc (ahead_of v.0 l)) ≤ suc (ahead_of u l)
          least true k = omega arith
          least false k = omega arith

  -- and none stands there if it finds nobody.
  pub oldest_none : (l : List Thread) → oldest c ws l ≡ None → 0 < times_in u l → ⊥
  unfolding times_in
  oldest_none [] f h = omega arith
  oldest_none (e ∷ l) f h = go (may_pick c ws e) (eqb e.0 u) refl refl f h (oldest_none l)
    where
      go : (a b : Bool) → may_pick c ws e ≡ a → eqb e.0 u ≡ b → (if a then Some e else oldest c ws l) ≡ None →
          0 < (if b then 1 else 0) + times_in u l → (oldest c ws l ≡ None → 0 < times_in u l → ⊥) → ⊥
      go true b p q f h i = cc
      go false true p q f h i = cc (fits e (eqb-true e.0 u q))
      go false false p q f h i = i f (omega arith)
