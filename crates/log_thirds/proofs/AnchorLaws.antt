-- Anchors that are read.
use Rattle.std.proofs.Common.{◌≡◌, ℕ, ◌≤◌, true, List, Option, Some, None, sym, subst}
use Rattle.std.specs.Prelude.{IfSome, if◌then◌else◌, Bool, false}
use Rattle.fsd_formats.specs.declared.anchor.Anchor.{Anchor}
use Rattle.fsd_formats.specs.Anchors.{read_anchor}
use Rattle.fsd_log.specs.Scan.{is_newer, newer_of}
use Rattle.fsd_log.proofs.AnchorLaws.{read_epoch, read_first, read_third}

pub epoch_read : (bytes : List ℕ) (o : Option Anchor) → o ≡ read_anchor bytes → IfSome o (λ a. 1 ≤ a.epoch)
epoch_read bytes None is = tt
epoch_read bytes (Some a) is = read_epoch bytes a (sym is)

pub first_read : (bytes : List ℕ) (o : Option Anchor) → o ≡ read_anchor bytes → IfSome o (λ a. 1 ≤ a.first)
first_read bytes None is = tt
first_read bytes (Some a) is = read_first bytes a (sym is)

pub third_read : (bytes : List ℕ) (o : Option Anchor) → o ≡ read_anchor bytes → IfSome o (λ a. a.third ≤ 2)
third_read bytes None is = tt
third_read bytes (Some a) is = read_third bytes a (sym is)

-- what is so of both is so of the newer one
pub newer_so : (P : Anchor → Type 0) (a b o : Option Anchor) → o ≡ newer_of a b → IfSome a P → IfSome b P → IfSome o P
newer_so P a b o is one two = subst (λ (x : Option Anchor). IfSome x P) (sym is) (of_both a b one two)
  where
    either : (c : Bool) (x y : Anchor) → P x → P y → P (if c then y else x)
    either true x y one two = two
    either false x y one two = one

    of_both : (a b : Option Anchor) → IfSome a P → IfSome b P → IfSome (newer_of a b) P
    of_both None b one two = two
    of_both (Some x) None one two = one
    of_both (Some x) (Some y) one two = either (is_newer y x) x y one two
