-- A move put before a play. A positional controller doesn't see what came before, so its plays from the move's target are
-- its plays from the move's start, one move longer, at the same cost.
use Rattle.std.specs.Prelude.{ℕ, ◌<◌, ◌≡◌, refl}
use Rattle.std.proofs.Common.{inl, inr}
use Rattle.game.specs.Value.{Value}
use Rattle.game.specs.Arena.{Arena, size, owner_at, Meant}
use Rattle.game.specs.Play.{Trail, still, meant, disturbed, last, cost, Allows, Play, Unsafe, Legal, positional, target_of}

-- the meant move to w, then the trail from w
unfoldable pub after : ℕ → Trail → Trail
after w still = meant still w
after w (meant t u) = meant (after w t) u
after w (disturbed t u) = disturbed (after w t) u

pub after_last : (v w : ℕ) (t : Trail) → last v (after w t) ≡ last w t
unfolding after last
after_last v w still = refl
after_last v w (meant t u) = refl
after_last v w (disturbed t u) = refl

pub after-cost : (a : Arena) (v w : ℕ) (t : Trail) → cost a v (after w t) ≡ cost a w t
unfolding after cost
after-cost a v w still = refl
after-cost a v w (meant t u) = after-cost a v w t
after-cost a v w (disturbed t u) = rw (after-cost a v w t, after_last v w t)

pub after-unsafe : (a : Arena) (v w : ℕ) (t : Trail) → Unsafe a w t → Unsafe a v (after w t)
unfolding after Unsafe
after-unsafe a v w still u = inr u
after-unsafe a v w (meant t x) (inl u) = inl (after-unsafe a v w t u)
after-unsafe a v w (meant t x) (inr u) = inr u
after-unsafe a v w (disturbed t x) (inl u) = inl (after-unsafe a v w t u)
after-unsafe a v w (disturbed t x) (inr u) = inr u

module _
    (a : Arena) (choice : ℕ → Value) (legal : Legal a choice)
    (v w : ℕ) (inside : v < size a) (m : Meant a v w) (allowed : Allows (owner_at a v) (target_of (choice v)) w)
  where
    pub after-play : (t : Trail) → Play a (positional a choice legal) w t → Play a (positional a choice legal) v (after w t)
    unfolding after last Play positional
    after-play still p = (inside, m, allowed)
    after-play (meant t u) p = (after-play t p.0, rw (after_last v w t) p.1, rw (after_last v w t) p.2)
    after-play (disturbed t u) p = (after-play t p.0, rw (after_last v w t) p.1)
