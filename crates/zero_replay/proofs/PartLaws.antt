-- What an effect makes of a rendezvous, part by part: one packet, the queues and words, the flag.
use mathlib.Core.Path.{◌≡◌, refl, sym, ap}
use mathlib.Core.Bool.{Bool, true, false}
use mathlib.Core.List.{List}
use lib.ListN.{set}
use lib.Seq.{set-get_or}
use Rattle.std.specs.Prelude.{Option, Some, None}
use Rattle.waker.specs.Wakers.{with_word, selected, registered, unregistered, picked, disconnected}
use Rattle.waker.specs.declared.context.Selected.TheVariants as word
use Rattle.waker.specs.declared.context.Thread.{Thread}
use Rattle.waker.specs.declared.wakers.Wakers.{Wakers}
use Rattle.zero.specs.ZeroSteps.{side_of, message_of}
use Rattle.zero.specs.Zero.{packet, no_packet, packet_at, kept_at_leave, applied}
use Rattle.zero.specs.declared.Packet.{Packet}
use Rattle.zero.specs.declared.Zero.{Zero}
use Rattle.zero.specs.declared.outcome.ZeroEffect.{ZeroEffect}
use Rattle.zero.specs.declared.outcome.ZeroEffect.TheVariants as effect

-- The thread whose packet an effect writes; the caller where it writes none.
abbrev pub written_packet : Thread → Option ZeroEffect → Thread
written_packet t None = t
written_packet t (Some (effect.Pick σ v)) = t
written_packet t (Some (effect.Join o)) = t
written_packet t (Some (effect.PutMessage v m)) = v
written_packet t (Some (effect.TakeMessage v)) = v
written_packet t (Some (effect.SetReady v)) = v
written_packet t (Some (effect.Abort σ)) = t
written_packet t (Some (effect.GiveUp σ)) = t
written_packet t (Some (effect.Leave σ)) = t
written_packet t (Some effect.Clear) = t
written_packet t (Some effect.Disconnect) = t

-- That packet after the effect.
abbrev pub packet_after : Packet → Option ZeroEffect → Packet
packet_after p None = p
packet_after p (Some (effect.Pick σ v)) = p
packet_after p (Some (effect.Join o)) = packet (message_of o) false
packet_after p (Some (effect.PutMessage v m)) = packet m p.ready
packet_after p (Some (effect.TakeMessage v)) = packet 0 p.ready
packet_after p (Some (effect.SetReady v)) = packet p.message true
packet_after p (Some (effect.Abort σ)) = kept_at_leave σ p
packet_after p (Some (effect.GiveUp σ)) = kept_at_leave σ p
packet_after p (Some (effect.Leave σ)) = no_packet
packet_after p (Some effect.Clear) = no_packet
packet_after p (Some effect.Disconnect) = p

-- The queues and words after it.
module _ (w : Wakers) (t : Thread) where
  abbrev pub wakers_after : Option ZeroEffect → Wakers
  wakers_after None = w
  wakers_after (Some (effect.Pick σ v)) = picked w σ v
  wakers_after (Some (effect.Join o)) = registered w (side_of o) t
  wakers_after (Some (effect.PutMessage v m)) = w
  wakers_after (Some (effect.TakeMessage v)) = w
  wakers_after (Some (effect.SetReady v)) = w
  wakers_after (Some (effect.Abort σ)) = selected w t word.Aborted
  wakers_after (Some (effect.GiveUp σ)) = w
  wakers_after (Some (effect.Leave σ)) = unregistered w σ t
  wakers_after (Some effect.Clear) = with_word w t word.Waiting
  wakers_after (Some effect.Disconnect) = disconnected w

-- The flag after it.
abbrev pub flag_after : Bool → Option ZeroEffect → Bool
flag_after f None = f
flag_after f (Some (effect.Pick σ v)) = f
flag_after f (Some (effect.Join o)) = f
flag_after f (Some (effect.PutMessage v m)) = f
flag_after f (Some (effect.TakeMessage v)) = f
flag_after f (Some (effect.SetReady v)) = f
flag_after f (Some (effect.Abort σ)) = f
flag_after f (Some (effect.GiveUp σ)) = f
flag_after f (Some (effect.Leave σ)) = f
flag_after f (Some effect.Clear) = f
flag_after f (Some effect.Disconnect) = true

abbrev pub parts_after : Zero → Thread → Option ZeroEffect → Zero
parts_after z t e =
    record {
      packets = set z.packets (written_packet t e).0 (packet_after (packet_at z (written_packet t e)) e);
      wakers = wakers_after z.wakers t e;
      disconnected = flag_after z.disconnected e;
    }

-- A packet that is written as it was leaves the packets.
as_was : (z : Zero) (t : Thread) (w : Wakers) (f : Bool) →
    ◌≡◌ {A = Zero} (record { packets = z.packets; wakers = w; disconnected = f })
    (record { packets = set z.packets t.0 (packet_at z t); wakers = w; disconnected = f })
as_was z t w f =
    ap (λ (l : List Packet). record { packets = l; wakers = w; disconnected = f })
    (sym (set-get_or z.packets t.0 no_packet))

pub applied_parts : (z : Zero) (t : Thread) (e : Option ZeroEffect) → applied z t e ≡ parts_after z t e
applied_parts z t None = as_was z t _ _
applied_parts z t (Some (effect.Pick σ v)) = as_was z t _ _
applied_parts z t (Some (effect.Join o)) = refl
applied_parts z t (Some (effect.PutMessage v m)) = refl
applied_parts z t (Some (effect.TakeMessage v)) = refl
applied_parts z t (Some (effect.SetReady v)) = refl
applied_parts z t (Some (effect.Abort σ)) = refl
applied_parts z t (Some (effect.GiveUp σ)) = refl
applied_parts z t (Some (effect.Leave σ)) = refl
applied_parts z t (Some effect.Clear) = refl
applied_parts z t (Some effect.Disconnect) = as_was z t _ _
