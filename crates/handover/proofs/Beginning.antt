-- Begin and take, and a call that leaves all where they are, keep what holds at all places.
use Prim.Native.Nat.{ℕ, ◌<◌, ◌≤◌}
use mathlib.Core.Path.{◌≡◌, refl, sym, ap, subst}
use mathlib.Core.Bool.{true, false}
use mathlib.Core.Logic.{◌≢◌}
use native.Mathlib.Omega.{arith}
use native.Mathlib.Decide.{ℕ_discrete}
use Rattle.std.specs.Prelude.{Some, Result, Ok}
use Rattle.std.proofs.lemmas.Option.{same_Some}
use Rattle.waker.specs.Context.{thread}
use Rattle.waker.specs.Wakers.{word_of}
use Rattle.waker.specs.declared.context.Thread.{Thread}
use Rattle.waker.specs.declared.wakers.Side.{Side}
use Rattle.zero.specs.Zero.{packet_at}
use Rattle.zero.specs.declared.Zero.{Zero as Memory}
use Rattle.channel.specs.declared.answer.Tick.{Tick}
use Rattle.channel.specs.declared.answer.Answer.{Answer}
use Rattle.schedule.specs.Record.{place_of, with_thread}
use Rattle.schedule.specs.History.{Act, begins, takes, Moment, updated}
use Rattle.bounds.specs.declared.flavour.Flavour.TheVariants as flavour
use Rattle.places.specs.Begin.{code_of, zero_call, started}
use Rattle.places.proofs.StartLaws.{Begins, begins as starts}
use Rattle.forms.specs.FormWaits.{awaits}
use Rattle.places.specs.declared.begin.Code.{Code}
use Rattle.places.specs.declared.begin.Code.TheVariants.{TrySend, TryReceive, Send, Receive, Len, IsEmpty, IsFull, IsDisconnected, Disconnect}
use Rattle.places.specs.declared.begin.UnknownCode.{UnknownCode}
use Rattle.places.specs.declared.place.Place.{Place}
use Rattle.places.specs.declared.place.Place.TheVariants.{Idle, Zero, Done}
use Rattle.schedule.specs.declared.record.Record.{Record}
use Rattle.grown.proofs.Scene.{here}
use Rattle.handover.specs.Meetings.{Past, begun_call}
use Rattle.handover.proofs.Inv.{AtPlace, Inv}
use Rattle.grown.proofs.Updates.{updated_here, updated_else}
use Rattle.handover.proofs.Moments.{elsewhere, stage}
use Rattle.handover.proofs.Touch.{keeps, Same, spares, Kept}
use Rattle.handover.proofs.Steady.{same_mate, Load, steady}
use Rattle.handover.proofs.Waiters.{named}

module _ (M : Moment Past) (I : Inv M) where
  -- Only the place of t, which nobody names, changes, and what is remembered of it.
  module _ (t : Thread) (there : t.0 < M.now.count) (p : Place) (at : place_of M.now t.0 ≡ p)
      (free : (σ : Side) → awaits σ p ≡ false) (q : Place) (h : Past) (a : Act) where
    abbrev N : Moment Past
    N = record { now = with_thread M.now t.0 q; past = h }

    unlike : (σ : Side) (v : ℕ) → awaits σ (place_of M.now v) ≡ true → v ≢ t.0
    unlike σ v w s = cc (free σ)

    moves : ((u : ℕ) → u ≢ t.0 → Same M N a u) → ((u : ℕ) → u ≢ t.0 → Load M N a u) → AtPlace N t.0 q → Kept M N a
    moves same load own =
        record { self = λ u. go u (ℕ_discrete u t.0); others = λ v σ w n. spares (same v (unlike σ v w)) }
      where
        go : (u : ℕ) → Dec (u ≡ t.0) → AtPlace N u (place_of N.now u)
        go u (yes e) = rw e (rw (here _ _ t (stage M I.kept t there) q) own)
        go u (no n) =
            steady M N a u (same u n) (load u n)
            (λ σ v e. same_mate M N a (same v.0 (unlike σ v.0 (named M I u σ v e).waits))) (I.self u)

  -- The rendezvous and what is remembered stay, and the clock is no earlier.
  module _ (r : Record) (e : r.zero ≡ M.now.zero) (l : M.now.clock.0 ≤ r.clock.0) (a : Act) where
    still : (u : ℕ) → place_of r u ≡ place_of M.now u → Same M (record { now = r; past = M.past }) a u
    still u p =
        record {
          place = p;
          word = keeps (ap (λ (z : Memory). word_of z.wakers (thread u)) e);
          packet = ap (λ (z : Memory). packet_at z (thread u)) e;
          ahead = λ σ q. rw e (omega arith);
          code = refl;
          carried = refl;
          deadline = refl;
          entries = refl;
          pairs = refl;
          since = refl;
          flag = λ f. rw e f;
          clock = l;
        }

    -- All stay where they are.
    pub rest_all : ((u : ℕ) → place_of r u ≡ place_of M.now u) → Kept M (record { now = r; past = M.past }) a
    rest_all p =
        record {
          self = λ u.
              steady M _ a u (still u (p u)) (λ σ d W. rw e (omega arith)) (λ σ v n. same_mate M _ a (still v.0 (p v.0)))
              (I.self u);
          others = λ v σ w n. spares (still v (p v));
        }

  pub take_all : (t : Thread) (x : Answer) → t.0 < M.now.count → place_of M.now t.0 ≡ Done x →
      Kept M (record { now = with_thread M.now t.0 Idle; past = M.past }) (takes t)
  take_all t x there at =
      moves t there (Done x) at (λ σ. refl) Idle M.past (takes t)
      (λ u n. still (with_thread M.now t.0 Idle) refl (omega arith) (takes t) u (elsewhere M.now t.0 Idle u n))
      (λ u n σ d W. omega arith) tt

  -- A call begins at its first place.
  module _ (t : Thread) (m : ℕ) (d : Tick) (p : Place) where
    abbrev after : Result Code UnknownCode → Moment Past
    after c = record { now = with_thread M.now t.0 p; past = begun_call M.past t.0 c m d.0 }

    begun : {A : Type 0} (f : ℕ → A) (x : A) → updated f t.0 x t.0 ≡ x
    begun f x = updated_here f t.0 x

    opens : (c : Code) → AtPlace (after (Ok c)) t.0 (Zero (zero_call c m d))
    opens TrySend = (begun _ _, sym (begun _ _), begun _ _)
    opens TryReceive = (begun _ _, sym (begun _ _), begun _ _)
    opens Send = (begun _ _, sym (begun _ _), (begun _ _, sym (begun _ _)))
    opens Receive = (begun _ _, sym (begun _ _), (begun _ _, sym (begun _ _)))
    opens Len = (begun _ _, begun _ _)
    opens IsEmpty = (begun _ _, begun _ _)
    opens IsFull = (begun _ _, begun _ _)
    opens IsDisconnected = (begun _ _, begun _ _)
    opens Disconnect = (begun _ _, begun _ _)

    pub begin_all : (c : ℕ) → t.0 < M.now.count → place_of M.now t.0 ≡ Idle → started flavour.Zero c m d ≡ Some p →
        Kept M (after (code_of c)) (begins t c m d)
    begin_all c there at e =
        moves t there Idle at (λ σ. refl) p (begun_call M.past t.0 (code_of c) m d.0) (begins t c m d)
        (λ u n.
        record {
          place = elsewhere M.now t.0 p u n;
          word = keeps refl;
          packet = refl;
          ahead = λ σ l. omega arith;
          code = updated_else _ t.0 _ u n;
          carried = updated_else _ t.0 _ u n;
          deadline = updated_else _ t.0 _ u n;
          entries = refl;
          pairs = updated_else _ t.0 _ u n;
          since = refl;
          flag = λ f. f;
          clock = omega arith;
        })
        (λ u n σ d W. omega arith) (rw b.named (subst (AtPlace (after (Ok b.code)) t.0) (same_Some _ p b.first) (opens b.code)))
      where
        b : Begins flavour.Zero c m d p
        b = starts flavour.Zero c m d p e
