-- What is met of what a look-up has found.
use Rattle.std.proofs.Common.{◌≡◌, inl, inr, ℕ, Bool, true, false, cond, List, [], ◌∷◌, Option, Some, None, Ok, Err, sym, ap, subst}
use Rattle.std.specs.Prelude.{Contains, IfOk, IfSome, IsTrue, option_map}
use Rattle.volume_layout.specs.Layout.{home_a}
use Rattle.fsd_bytes.specs.declared.key.Key.{Key}
use Rattle.fsd_bytes.specs.declared.refusal.Refusal.TheVariants as Why
use Rattle.fsd_formats.specs.declared.entry.Entry.{Entry}
use Rattle.fsd_files.specs.Answers.{entry_after as entry_behind}
use Rattle.fsd_files.specs.declared.reply.Reply.TheVariants.{Found}
use Rattle.name_page.specs.Lookups.{is_after}
use Rattle.name_btree.specs.declared.lookup.FoundEntry.{FoundEntry}
use Rattle.name_btree.specs.Lookup.{found_entry}
use Rattle.volume_contract.specs.Ends.{IsLater, LooksUp, found_one}
use Rattle.volume_contract.specs.Order.{Follows, LookUp, Test, is_idle, next_steps}
use Rattle.volume_contract.specs.State.{State}
use Rattle.volume_laws.specs.Meeting.{met_found}
use Rattle.volume_laws.specs.Taken.{are_taken, down_fault}
use Rattle.volume_laws.specs.Volume.{VolumeValue}
use Rattle.volume_laws.proofs.TableLaws.{behind_there}

-- ---- the steps

pub up_by : (down : Option ℕ) → down_fault down ≡ Ok tt → down ≡ None
up_by None up = cc
up_by (Some s) up = absurd (cc up)

pub met_order : (s : State) (v : VolumeValue) (found : Option FoundEntry) → s.down ≡ None → Follows (next_steps s) (met_found v found)
met_order s v None up = (ap (λ (o : Option ℕ). option_map Why.Down o) up, (tt, tt))
met_order s v (Some f) up = by (are_taken v f.entry.runs)
  where
    by : (b : Bool) → Follows (next_steps s) (found_one (cond b (Ok f.entry) (Err (Why.Unsound (home_a v.layout f.page)))))
    by true = (ap (λ (o : Option ℕ). option_map Why.Down o) up, (tt, tt))
    by false = inr (ap (λ (o : Option ℕ). option_map Why.Down o) up, inl tt)

busy : (down : Option ℕ) → down ≡ None → is_idle (Test (option_map Why.Down down) ∷ LookUp ∷ []) ≡ true → ⊥
busy None up idle = absurd (cc idle)
busy (Some s) up idle = absurd (cc up)

pub busy_next : (s : State) → s.down ≡ None → is_idle (next_steps s) ≡ true → ⊥
busy_next s up idle = busy s.down up idle

-- ---- keys

later_some : (after : Option Key) (e : Entry) → is_after after e.key ≡ true → IsLater after (Some e)
later_some None e later = tt
later_some (Some key) e later = later

pub met_later : (v : VolumeValue) (found : Option FoundEntry) (after : Option Key) → IfSome found (λ f. is_after after f.entry.key ≡ true) → IfOk (met_found v found) (IsLater after)
met_later v None None later = tt
met_later v None (Some key) later = tt
met_later v (Some f) after later = by (are_taken v f.entry.runs)
  where
    by : (b : Bool) → IfOk (found_one (cond b (Ok f.entry) (Err (Why.Unsound (home_a v.layout f.page))))) (IsLater after)
    by true = later_some after f.entry later
    by false = tt

-- ---- replies

pub met_done : (v : VolumeValue) (found : Option FoundEntry) (after : Option Key) (entries : List Entry) → found_entry found ≡ entry_behind after entries → ((x : Entry) → Contains entries x → IsTrue (are_taken v x.runs))
    → LooksUp (Found (entry_behind after entries)) (met_found v found)
met_done v None after entries finds taken = ap Found (sym finds)
met_done v (Some f) after entries finds taken =
    subst (λ (b : Bool). LooksUp (Found (entry_behind after entries)) (found_one (cond b (Ok f.entry) (Err (Why.Unsound (home_a v.layout f.page)))))) (sym (taken f.entry (behind_there after entries f.entry (sym finds)))) (ap Found (sym finds))
