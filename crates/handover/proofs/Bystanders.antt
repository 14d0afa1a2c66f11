-- What a step of thread t leaves to every thread that its effect does not touch.
use Prim.Native.Nat.{ℕ, ◌<◌, ◌≤◌}
use mathlib.Core.Path.{◌≡◌, refl, ap, ◌∙◌}
use mathlib.Core.Bool.{true}
use mathlib.Core.Logic.{◌≢◌}
use mathlib.Core.List.{List, [], ◌∷◌, ◌++◌}
use native.Mathlib.Omega.{arith}
use Rattle.waker.specs.Context.{thread, word_in}
use Rattle.waker.specs.Waker.{entries, queue_of, without}
use Rattle.waker.specs.Wakers.{other_side, listed, word_of, with_queue, with_contexts, with_word_in}
use Rattle.waker.specs.declared.context.Thread.{Thread}
use Rattle.waker.specs.declared.context.Context.{Context}
use Rattle.waker.specs.declared.context.Selected.{Selected}
use Rattle.waker.specs.declared.wakers.Side.{Side}
use Rattle.waker.proofs.WakerLaws.{entries_queue_of}
use Rattle.std.specs.Prelude.{Option, Some, None}
use Rattle.zero.specs.Zero.{packet_at, with_packet, applied}
use Rattle.zero.specs.ZeroSteps.{side_of}
use Rattle.zero.specs.declared.Packet.{Packet}
use Rattle.zero.specs.declared.Zero.{Zero as Memory}
use Rattle.zero.specs.declared.call.Question.TheVariants.{Disconnect}
use Rattle.zero.specs.declared.call.ZeroCall.{ZeroCall}
use Rattle.zero.specs.declared.call.ZeroCall.TheVariants.{Ask}
use Rattle.zero.specs.declared.outcome.ZeroEffect.{ZeroEffect}
use Rattle.zero.specs.declared.outcome.ZeroEffect.TheVariants as effect
use Rattle.zero.specs.ZeroOutcome.{ZeroOutcome}
use Rattle.schedule.specs.Record.{place_of}
use Rattle.forms.specs.FormWaits.{times_in}
use Rattle.schedule.specs.History.{steps, Moment, updated}
use Rattle.places.specs.Place.{place_after}
use Rattle.places.specs.declared.place.Place.TheVariants.{Zero}
use Rattle.grown.proofs.Turning.{Turned, stays, turns, turned_both}
use Rattle.grown.proofs.ZeroMemory.{word_else, packet_else, same_words, at_queue, same_list}
use Rattle.handover.specs.Meetings.{Past, opposed_after, plain, brought, word_at, packet_of}
use Rattle.handover.specs.Statement.{ahead_of}
use Rattle.grown.proofs.Updates.{updated_else}
use Rattle.handover.proofs.Queues.{ahead_joined_other, ahead_left}
use Rattle.handover.proofs.Moments.{step_to, elsewhere}
use Rattle.handover.proofs.Touch.{Cut, Word, keeps, cuts, Same}

-- An effect at k touches no thread but the caller and, if it has a partner, that; only the step that disconnects cuts.
abbrev pub Spares : ZeroCall → Option ZeroEffect → ℕ → Type 0
Spares k None u = Unit
Spares k (Some (effect.Pick σ v)) u = u ≢ v.0
Spares k (Some (effect.Join o)) u = Unit
Spares k (Some (effect.PutMessage v m)) u = u ≢ v.0
Spares k (Some (effect.TakeMessage v)) u = u ≢ v.0
Spares k (Some (effect.SetReady v)) u = u ≢ v.0
Spares k (Some (effect.Abort σ)) u = Unit
Spares k (Some (effect.GiveUp σ)) u = Unit
Spares k (Some (effect.Leave σ)) u = Unit
Spares k (Some effect.Clear) u = Unit
Spares k (Some effect.Disconnect) u = k ≡ Ask Disconnect

module _ (M : Moment Past) (t : Thread) (k : ZeroCall) (at : place_of M.now t.0 ≡ Zero k) (u : ℕ) (apart : u ≢ t.0) where
  abbrev z : Memory
  z = M.now.zero

  abbrev h : Past
  h = M.past

  -- What is remembered of a bystander.
  record Recalls (g : Past) : Type 0 where
    code : g.code u ≡ h.code u
    carried : g.carried u ≡ h.carried u
    deadline : g.deadline u ≡ h.deadline u
    entries : g.entries u ≡ h.entries u
    opposed : g.opposed u ≡ opposed_after M.now h t.0 k u
    pairs : g.pairs u ≡ h.pairs u
    since : g.since u ≡ h.since u

  -- What is another thread's is no concern of it.
  mine : {A : Type 0} (f : ℕ → A) (x : A) → updated f t.0 x u ≡ f u
  mine f x = updated_else f t.0 x u apart

  plainly : Recalls (plain M.now h t.0 k)
  plainly =
      record { code = refl; carried = refl; deadline = refl; entries = refl; opposed = refl; pairs = refl; since = mine _ _ }

  recalls : (e : Option ZeroEffect) → Spares k e u → Recalls (brought M.now h t.0 k e)
  recalls (Some (effect.Pick σ v)) s =
      record {
        code = refl;
        carried = refl;
        deadline = refl;
        entries = refl;
        opposed = refl;
        pairs = mine _ _ ∙ updated_else _ v.0 _ u s;
        since = mine _ _;
      }
  recalls (Some (effect.Join o)) s =
      record { code = refl; carried = refl; deadline = refl; entries = mine _ _; opposed = mine _ _; pairs = refl; since = refl }
  recalls (Some (effect.SetReady v)) s =
      record {
        code = refl;
        carried = refl;
        deadline = refl;
        entries = refl;
        opposed = refl;
        pairs = refl;
        since = updated_else _ v.0 _ u s;
      }
  recalls _ s = plainly

  -- What the memory has of it: at most as many entries stand before it.
  abbrev Fewer : Side → List Thread → Type 0
  Fewer σ l = 0 < times_in u (listed z.wakers σ) → ahead_of u l ≤ ahead_of u (listed z.wakers σ)

  record Leaves (y : Memory) : Type 0 where
    word : Word (Cut M (steps t) y.disconnected) (word_at M.now u) (word_of y.wakers (thread u))
    packet : packet_at y (thread u) ≡ packet_of M.now u
    flag : z.disconnected ≡ true → y.disconnected ≡ true
    ahead : (σ : Side) → Fewer σ (listed y.wakers σ)

  as_many : (σ : Side) → Fewer σ (listed z.wakers σ)
  as_many σ l = omega arith

  -- Another word of v's, and another queue on one side.
  word_apart : {C : Type 0} (c : List Context) (v : Thread) (s : Selected) → u ≢ v.0 → c ≡ z.wakers.contexts →
      Word C (word_at M.now u) (word_in (with_word_in c v s) (thread u))
  word_apart c v s n e = keeps (word_else c v s u n ∙ ap (λ (c : List Context). word_in c (thread u)) e)

  fewer_on : (ρ : Side) (l : List Thread) (c : List Context) → Fewer ρ l → (σ : Side) →
      Fewer σ (listed (with_contexts (with_queue z.wakers ρ (queue_of l)) c) σ)
  fewer_on ρ l c f =
      at_queue z.wakers ρ (queue_of l) c (λ σ q. Fewer σ (entries q)) (rw (entries_queue_of l) f) (as_many (other_side ρ))

  still : (c : List Context) (σ : Side) → Fewer σ (listed (with_contexts z.wakers c) σ)
  still c σ = rw (same_list z.wakers c σ) (as_many σ)

  packet_only : (v : Thread) (p : Packet) → u ≢ v.0 → Leaves (with_packet z v p)
  packet_only v p n = record { word = keeps refl; packet = packet_else z v p u n; flag = λ f. f; ahead = as_many }

  turned : {n : ℕ} {w x : Selected} → k ≡ Ask Disconnect → Turned n w x → Word (Cut M (steps t) true) w x
  turned s (stays e) = keeps e
  turned s (turns e f l) = cuts e f (record { who = t; does = refl; place = at ∙ ap Zero s; flag = refl })

  leaves : (e : Option ZeroEffect) → Spares k e u → Leaves (applied z t e)
  leaves None s = record { word = keeps refl; packet = refl; flag = λ f. f; ahead = as_many }
  leaves (Some (effect.Pick σ v)) s =
      record {
        word = word_apart _ v _ s (same_words z.wakers σ _);
        packet = refl;
        flag = λ f. f;
        ahead = fewer_on σ (without v (listed z.wakers σ)) z.wakers.contexts (λ l. ahead_left v u _ s);
      }
  leaves (Some (effect.Join o)) s =
      record {
        word = word_apart _ t _ apart (same_words z.wakers (side_of o) _);
        packet = packet_else z t _ u apart;
        flag = λ f. f;
        ahead = fewer_on (side_of o) (listed z.wakers (side_of o) ++ (t ∷ [])) z.wakers.contexts (λ l. omega (arith, ahead_joined_other t u _ l));
      }
  leaves (Some (effect.PutMessage v m)) s = packet_only v _ s
  leaves (Some (effect.TakeMessage v)) s = packet_only v _ s
  leaves (Some (effect.SetReady v)) s = packet_only v _ s
  leaves (Some (effect.Abort σ)) s =
      record { word = word_apart _ t _ apart refl; packet = packet_else z t _ u apart; flag = λ f. f; ahead = still z.wakers.contexts }
  leaves (Some (effect.GiveUp σ)) s = packet_only t _ apart
  leaves (Some (effect.Leave σ)) s =
      record {
        word = word_apart _ t _ apart (same_words z.wakers σ _);
        packet = packet_else z t _ u apart;
        flag = λ f. f;
        ahead = fewer_on σ (without t (listed z.wakers σ)) z.wakers.contexts (λ l. ahead_left t u _ apart);
      }
  leaves (Some effect.Clear) s =
      record { word = word_apart _ t _ apart refl; packet = packet_else z t _ u apart; flag = λ f. f; ahead = still z.wakers.contexts }
  leaves (Some effect.Disconnect) s =
      record { word = turned s (turned_both z.wakers u); packet = refl; flag = λ f. refl; ahead = still z.wakers.contexts }

  -- So a thread that the outcome's effect spares stays as it is,
  module _ (o : ZeroOutcome) (spared : Spares k o.effect u) where
    pub same : Same M (step_to M t k o) (steps t) u
    same =
        record {
          place = elsewhere M.now t.0 (place_after Zero o.next) u apart;
          word = L.word;
          packet = L.packet;
          ahead = L.ahead;
          code = R.code;
          carried = R.carried;
          deadline = R.deadline;
          entries = R.entries;
          pairs = R.pairs;
          since = R.since;
          flag = L.flag;
          clock = omega arith;
        }
      where
        R : Recalls (step_to M t k o).past
        R = recalls o.effect spared

        L : Leaves (step_to M t k o).now.zero
        L = leaves o.effect spared

    -- but for the opposite calls that it has counted.
    pub opposed_now : (step_to M t k o).past.opposed u ≡ opposed_after M.now h t.0 k u
    opposed_now = (recalls o.effect spared).opposed
