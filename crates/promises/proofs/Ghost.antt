-- No part of a run reads the ghost.
-- Assumes nothing.
use Prim.Native.Nat.{ℕ, ◌+◌}
use native.Mathlib.Nat.{add-zero}
use mathlib.Core.List.{List, []}
use mathlib.Core.Path.{◌≡◌, refl, sym, ap, ◌∙◌}
use Rattle.definition.specs.declared.Why.{Why}
use Rattle.definition.specs.Bytes.{mixed}
use Rattle.definition.specs.World.{Pass, World, Res}
use Rattle.definition.specs.Calls.{Place}
use Rattle.definition.specs.Flow.{End, ran, returned, went}
use Rattle.definition.specs.Run.{Stop, run_member}
use Rattle.definition.specs.Expansion.{result}
use Rattle.definition.proofs.Follows.{none_extra, Spare, no_more, goes, halts, lacks, same}
use Rattle.definition.proofs.FollowsRun.{G, T, member_follows}
use Rattle.promises.specs.Ghost.{haunted, GhostUnread}

abbrev Never : Why → Type 0
Never e = ⊥

abbrev even : Spare 0 0 none_extra Never
even = no_more refl refl refl

module _ (gs : List Pass) where
  result_same : {r s : Res Stop End} → T 0 0 none_extra gs Never even r s → result s ≡ result r
  result_same (goes {x = ran}) = refl
  result_same (goes {x = returned v}) = refl
  result_same (goes {x = went t}) = refl
  result_same (halts same) = refl
  result_same (lacks h) = absurd h

  grown : (w : World) → haunted gs w ≡ G 0 0 none_extra gs Never even (haunted [] w)
  grown w =
      let p : w.limit ≡ w.limit + 0 = sym (add-zero w.limit) in
      let q : w.text_left ≡ w.text_left + 0 = sym (add-zero w.text_left) in
      let r : w.lines_left ≡ w.lines_left + 0 = sym (add-zero w.lines_left) in
      λ i. record { identifiers = w.identifiers; denotations = w.denotations; values = w.values; activities = w.activities; members = w.members; sentences = w.sentences; limit = p i; used = w.used; layout = w.layout; events = w.events; text_left = q i; lines_left = r i; passes = gs }

  laid : (d : List ℕ) (n m : ℕ) (on : List Place) (w : World) → result (run_member mixed n d m on (haunted gs w)) ≡ result (run_member mixed n d m on (haunted [] w))
  laid d n m on w = ap (λ (v : World). result (run_member mixed n d m on v)) (grown w) ∙ result_same (member_follows 0 0 none_extra gs Never even d n m on (haunted [] w))

pub ghost_unread : (d : List ℕ) → GhostUnread d
ghost_unread d n m on w gs hs = laid gs d n m on w ∙ sym (laid hs d n m on w)
