-- Texts that are said one behind the other, and what is said of them at a moment.
use Rattle.std.proofs.Common.{◌≡◌, ◌⊎◌, inl, inr, ℕ, ◌+◌, ◌<◌, Bool, false, List, [], ◌∷◌, ◌++◌, length, map, take, drop, get_or, refl, sym, ◌∙◌, ap, subst, append_assoc}
use Rattle.std.proofs.Math.Seq.{take-append_seam}
use Rattle.std.proofs.lemmas.Grind.{flat_map-append}
use Rattle.std.proofs.lemmas.List.{append-nil, map-append, take-append-drop, take_more}
use Rattle.sector_disk.specs.declared.machine.Machine.{Ghosts}
use Rattle.sector_disk.specs.Calls.{LeavesDisk}
use Rattle.sector_disk.specs.Image.{open_damage}
use Rattle.sector_disk.specs.Machine.{Moment, Utters, Wears}
use Rattle.sector_disk.proofs.CallLaws.{leaves_none, leaves_then}
use Rattle.sector_disk.proofs.Holding.{utters_none}
use Rattle.sector_disk.proofs.Moments.{leaves_more}
use Rattle.sector_disk.proofs.Wear.{worn_refl}
use Rattle.fsd_bytes.specs.declared.key.Key.{Key}
use Rattle.fsd_runs.specs.Errands.{Turn, damage_turn}
use Rattle.fsd_texts.specs.declared.line.Line.{Line}
use Rattle.fsd_texts.specs.declared.line.Line.TheVariants as Says
use Rattle.fsd_texts.specs.Text.{text}
use Rattle.fsd_runs.specs.Runs.{said_in}
use Rattle.volume_contract.specs.State.{Ages}
use Rattle.volume_turns.specs.Dumping.{SaysAtEnd, damages_text}
use Rattle.volume_turns.specs.Line.{EndsLast, IsStatusAs, is_unsaid}
use Rattle.volume_turns.specs.Turns.{SaysAll}
use Rattle.volume_turns.proofs.ReasonLaws.{ages_then}
use Rattle.volume_dump.proofs.TextLaws.{utters_more}

-- ---- at a moment

-- the text begins with what is said of it
pub utters_by : (bytes part more : List ℕ) (old left : Moment) → bytes ≡ part ++ more → Ages old left → left.said ≡ old.said ++ part → Utters bytes old left
utters_by bytes part more old left is ages said = record {
  image = ages.image;
  windows = ages.windows;
  heard = length part;
  said = said ∙ ap (λ (x : List ℕ). old.said ++ x) (sym (ap (take (length part)) is ∙ take-append_seam part more));
}

pub aged : (bytes : List ℕ) (old left : Moment) → Utters bytes old left → Ages old left
aged bytes old left u = record { image = u.image; windows = u.windows }

-- behind one that is said whole
pub utters_behind : (front more : List ℕ) (old mid left : Moment) → SaysAll front old mid → Utters more mid left → Utters (front ++ more) old left
utters_behind front more old mid left all u =
    utters_by (front ++ more) (front ++ take u.heard more) (drop u.heard more) old left
    (ap (λ (x : List ℕ). front ++ x) (sym (take-append-drop u.heard more)) ∙ sym (append_assoc front (take u.heard more) (drop u.heard more)))
    (ages_then old mid left all.ages (aged more mid left u))
    (u.said ∙ ap (λ (x : List ℕ). x ++ take u.heard more) all.said ∙ append_assoc old.said front (take u.heard more))

pub says_both : (front more : List ℕ) (old mid new : Moment) → SaysAll front old mid → SaysAll more mid new → SaysAll (front ++ more) old new
says_both front more old mid new all then = record {
  ages = ages_then old mid new all.ages then.ages;
  said = then.said ∙ ap (λ (x : List ℕ). x ++ more) all.said ∙ append_assoc old.said front more;
}

pub says_none : (now : Moment) → SaysAll [] now now
says_none now = record { ages = record { image = worn_refl (open_damage now.windows) now.image; windows = refl }; said = sym (append-nil now.said) }

-- nothing is said by what wears
pub wears_say : (old new : Moment) → Wears old new → SaysAll [] old new
wears_say old new w = record { ages = record { image = w.image; windows = w.windows }; said = w.said ∙ sym (append-nil old.said) }

-- ---- to the end

module _ {D : Type 0} {M : Ghosts D} where
  -- nothing
  pub at_end_none : (gives : ℕ) → is_unsaid gives ≡ false → (a : D) → ((c : Moment) → M.honest a → M.left_since a (M.moment a) c → c ≡ M.now a) → SaysAtEnd M [] gives a a gives
  at_end_none gives other a only = record {
    says = subst (λ (b : Bool). LeavesDisk M false b (Utters []) a a) (sym other) (leaves_none a only (Utters []) (λ h. utters_none [] (M.now a)));
    ledger = λ t. refl;
    kind = inl refl;
    ends = λ h. inr (refl, says_none (M.now a));
  }

  -- a last line
  pub at_end_line : (line : Line) (gives : ℕ) (a b : D) (status : ℕ) → LeavesDisk M false (is_unsaid status) (Utters (text line)) a b → (M.honest b → EndsLast line gives (M.now a) (M.now b) status) → (M.tells b → M.ledger b ≡ M.ledger a) → IsStatusAs gives status → SaysAtEnd M (text line) gives a b status
  at_end_line line gives a b status says ends ledger kind = record { says = says; ledger = ledger; kind = kind; ends = ends }

  -- one behind the other, of which the first has not failed
  pub at_end_then : (front more : List ℕ) (gives : ℕ) → is_unsaid gives ≡ false → (a m b : D) (status : ℕ) → SaysAtEnd M front gives a m gives → SaysAtEnd M more gives m b status → SaysAtEnd M (front ++ more) gives a b status
  at_end_then front more gives other a m b status x y = record {
    says = leaves_then first y.says (λ h left u. utters_more front more (M.now a) left u) (λ h left u. utters_behind front more (M.now a) (M.now m) left (said (y.says.trust.honest h)) u);
    ledger = λ t. y.ledger t ∙ x.ledger (y.says.trust.tells t);
    kind = y.kind;
    ends = λ h. by h (y.ends h);
  }
    where
      first : LeavesDisk M false false (Utters front) a m
      first = subst (λ (b : Bool). LeavesDisk M false b (Utters front) a m) other x.says

      said_by : (gives ≡ 6) ⊎ ((gives ≡ gives) × SaysAll front (M.now a) (M.now m)) → SaysAll front (M.now a) (M.now m)
      said_by (inl six) = absurd (let no : is_unsaid 6 ≡ false = subst (λ (n : ℕ). is_unsaid n ≡ false) six other in cc no)
      said_by (inr all) = all.1

      said : M.honest m → SaysAll front (M.now a) (M.now m)
      said h = said_by (x.ends h)

      by : M.honest b → (status ≡ 6) ⊎ ((status ≡ gives) × SaysAll more (M.now m) (M.now b)) → (status ≡ 6) ⊎ ((status ≡ gives) × SaysAll (front ++ more) (M.now a) (M.now b))
      by h (inl six) = inl six
      by h (inr (is, all)) = inr (is, says_both front more (M.now a) (M.now m) (M.now b) (said (y.says.trust.honest h)) all)

  -- where it has failed, no more is said
  pub at_end_failed : (front more : List ℕ) (gives : ℕ) (a b : D) → SaysAtEnd M front gives a b 6 → SaysAtEnd M (front ++ more) gives a b 6
  at_end_failed front more gives a b x = record {
    says = record {
      spares = x.says.spares;
      trust = x.says.trust;
      exit = λ h. utters_more front more (M.now a) (M.now b) (x.says.exit h);
      since = x.says.since;
      any_moment = λ h. leaves_more M.moment M.left_since a b (Utters front (M.now a)) (Utters (front ++ more) (M.now a)) (λ c u. utters_more front more (M.now a) c u) (x.says.any_moment h);
    };
    ledger = x.ledger;
    kind = inr refl;
    ends = λ h. inl refl;
  }

-- ---- lines of damaged sectors

damages_both : (xs ys : List (Key × ℕ)) → damages_text (xs ++ ys) ≡ damages_text xs ++ damages_text ys
damages_both xs ys = ap (λ (ts : List Turn). said_in ts) (map-append damage_turn xs ys) ∙ flat_map-append (λ (t : Turn). t.said) (map damage_turn xs) (map damage_turn ys)

pub damages_more : (xs : List (Key × ℕ)) (i : ℕ) (x : Key × ℕ) → i < length xs → x ≡ get_or xs i x → damages_text (take (i + 1) xs) ≡ damages_text (take i xs) ++ text (Says.Damaged x.0 x.1)
damages_more xs i x more is =
    ap damages_text (take_more xs i x more ∙ ap (λ (y : Key × ℕ). take i xs ++ y ∷ []) (sym is)) ∙ damages_both (take i xs) (x ∷ []) ∙ ap (λ (z : List ℕ). damages_text (take i xs) ++ z) (append-nil (text (Says.Damaged x.0 x.1)))

pub damages_rest : (xs : List (Key × ℕ)) (n : ℕ) → damages_text xs ≡ damages_text (take n xs) ++ damages_text (drop n xs)
damages_rest xs n = ap damages_text (sym (take-append-drop n xs)) ∙ damages_both (take n xs) (drop n xs)

module _ {D : Type 0} (M : Ghosts D) (found : List (Key × ℕ)) (i : ℕ) (a b : D) where
  -- the line of the next one
  pub found_next : (x : Key × ℕ) (key : Key) → i < length found → x ≡ get_or found i x → key ≡ x.0 → (m : D) (status : ℕ) → SaysAtEnd M (damages_text (take i found)) 8 a m 8 → SaysAtEnd M (text (Says.Damaged key x.1)) 8 m b status
      → SaysAtEnd M (damages_text (take (i + 1) found)) 8 a b status
  found_next x key more is same m status so_far line =
      subst (λ (bytes : List ℕ). SaysAtEnd M bytes 8 a b status) (sym (damages_more found i x more is))
      (at_end_then (damages_text (take i found)) (text (Says.Damaged x.0 x.1)) 8 refl a m b status so_far (subst (λ (y : Key). SaysAtEnd M (text (Says.Damaged y x.1)) 8 m b status) same line))

  -- the output has failed there
  pub found_failed : (status : ℕ) → status ≡ 6 → SaysAtEnd M (damages_text (take (i + 1) found)) 8 a b status → SaysAtEnd M (damages_text found) 8 a b 6
  found_failed status six said =
      subst (λ (bytes : List ℕ). SaysAtEnd M bytes 8 a b 6) (sym (damages_rest found (i + 1)))
      (at_end_failed (damages_text (take (i + 1) found)) (damages_text (drop (i + 1) found)) 8 a b (subst (λ (s : ℕ). SaysAtEnd M (damages_text (take (i + 1) found)) 8 a b s) six said))

pub not_failed : (gives status : ℕ) → IsStatusAs gives status → (status ≡ 6 → ⊥) → status ≡ gives
not_failed gives status (inl is) other = is
not_failed gives status (inr six) other = absurd (other six)
