-- What commands one after another have said, whatever the image.
use Rattle.std.proofs.Common.{◌≡◌, ℕ, true, List, [], ◌∷◌, ◌++◌, refl, sym, ◌∙◌, ap}
use Rattle.std.specs.Prelude.{Result, Ok, Err}
use Rattle.std.specs.List.{flat_map}
use Rattle.std.proofs.lemmas.List.{append-nil, append_assoc}
use Rattle.sector_disk.specs.Machine.{Moment}
use Rattle.fsd_files.specs.declared.reply.Reply.{Reply}
use Rattle.volume_turns.specs.declared.turns.Halt.{Halt}
use Rattle.volume_turns.specs.declared.turns.Halt.TheVariants.{Fault as Stopped, Output}
use Rattle.volume_turns.specs.Answering.{SaysBy}
use Rattle.volume_turns.specs.Group.{is_worn_end}
use Rattle.volume_turns.specs.Turns.{BreaksWhole, EndsWhole, KeepsEnd, KeepsSaid, SaysReplies, SaysWhole}

-- ---- replies

flat_append : (says : Reply → List ℕ) (xs ys : List Reply) → flat_map says (xs ++ ys) ≡ flat_map says xs ++ flat_map says ys
flat_append says [] ys = refl
flat_append says (x ∷ xs) ys = ap (λ (z : List ℕ). says x ++ z) (flat_append says xs ys) ∙ sym (append_assoc (says x) (flat_map says xs) (flat_map says ys))

pub no_replies : (says : Reply → List ℕ) (before after : List ℕ) → after ≡ before → SaysReplies says before after
no_replies says before after same = ([], same ∙ sym (append-nil before))

one_reply : (says : Reply → List ℕ) (reply : Reply) (before after : List ℕ) → after ≡ before ++ says reply → SaysReplies says before after
one_reply says reply before after said = (reply ∷ [], said ∙ ap (λ (x : List ℕ). before ++ x) (sym (append-nil (says reply))))

pub flat_then : (says : Reply → List ℕ) (xs ys : List Reply) (a b c : List ℕ) → b ≡ a ++ flat_map says xs → c ≡ b ++ flat_map says ys → c ≡ a ++ flat_map says (xs ++ ys)
flat_then says xs ys a b c first then = then ∙ ap (λ (x : List ℕ). x ++ flat_map says ys) first ∙ append_assoc a (flat_map says xs) (flat_map says ys) ∙ ap (λ (x : List ℕ). a ++ x) (sym (flat_append says xs ys))

pub replies_then : (says : Reply → List ℕ) (a b c : List ℕ) → SaysReplies says a b → SaysReplies says b c → SaysReplies says a c
replies_then says a b c (xs, first) (ys, then) = (xs ++ ys, flat_then says xs ys a b c first then)

-- ---- by how it ended

module _ (says : Reply → List ℕ) (a m b : Moment) where
  pub whole_by : (reply : Reply) → m.said ≡ a.said → (r : Result (Unit {0}) Halt) → SaysBy (says reply) m b r → SaysWhole says a b r
  whole_by reply same (Ok x) said = one_reply says reply a.said b.said (said ∙ ap (λ (x : List ℕ). x ++ says reply) same)
  whole_by reply same (Err (Stopped why)) said = no_replies says a.said b.said (said ∙ same)
  whole_by reply same (Err Output) said = tt

  pub whole_then : (end : Halt) → SaysReplies says a.said m.said → EndsWhole says m b end → EndsWhole says a b end
  whole_then (Stopped why) first said = replies_then says a.said m.said b.said first said
  whole_then Output first said = tt

  pub broken_by : {T : Type 0} (r : Result T Halt) → SaysReplies says a.said m.said → KeepsSaid m b r → BreaksWhole says a b r
  broken_by (Ok x) first same = tt
  broken_by (Err (Stopped why)) first same = replies_then says a.said m.said b.said first (no_replies says m.said b.said same)
  broken_by (Err Output) first same = tt

pub worn_whole : (says : Reply → List ℕ) (a b : Moment) (end : Halt) → is_worn_end end ≡ true → EndsWhole says a b end → SaysReplies says a.said b.said
worn_whole says a b (Stopped why) is said = said
worn_whole says a b Output is said = absurd (cc is)

-- ---- in front of a fault

pub keeps_by : {T : Type 0} (text : List ℕ) (a b : Moment) (r : Result T Halt) → SaysBy text a b r → KeepsSaid a b r
keeps_by text a b (Ok x) said = tt
keeps_by text a b (Err (Stopped why)) said = said
keeps_by text a b (Err Output) said = tt

pub keeps_then : {T : Type 0} (a m b : Moment) (r : Result T Halt) → m.said ≡ a.said → KeepsSaid m b r → KeepsSaid a b r
keeps_then a m b (Ok x) same kept = tt
keeps_then a m b (Err (Stopped why)) same kept = kept ∙ same
keeps_then a m b (Err Output) same kept = tt

pub keeps_end : (a b : Moment) (end : Halt) → b.said ≡ a.said → KeepsEnd a b end
keeps_end a b (Stopped why) same = same
keeps_end a b Output same = tt
