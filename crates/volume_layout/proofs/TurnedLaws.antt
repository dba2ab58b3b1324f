-- A layout turned twice is the layout again, and the two have different roots.
use Rattle.std.proofs.Common.{◌≡◌, inl, inr, refl, sym, ap, ◌∙◌, arith}
use Rattle.std.proofs.lemmas.Nat.{from_be_bytes-to_be_bytes_4}
use Rattle.fsd_bytes.specs.Bytes.{u32_at}
use Rattle.volume_layout.specs.declared.kind.Kind.{Kind}
use Rattle.volume_layout.specs.declared.kind.Kind.TheVariants.{Two, Three}
use Rattle.volume_layout.specs.declared.layout.Layout.{Layout}
use Rattle.volume_layout.specs.Kinds.{other, layout_number}
use Rattle.volume_layout.specs.Layout.{IsFormOf, IsPlanned, turned, with_kind}
use Rattle.volume_layout.specs.Root.{root_bytes}
use Rattle.volume_layout.proofs.KindLaws.{more_most}
use Rattle.volume_layout.proofs.RootLaws.{planned_alike}

other_other : (kind : Kind) → other (other kind) ≡ kind
other_other Two = refl
other_other Three = refl

pub turned_twice : (l : Layout) → turned (turned l) ≡ l
turned_twice l = ap (λ (kind : Kind). with_kind kind l) (other_other l.kind)

-- ---- forms

pub own_form : (l : Layout) → IsFormOf l l
own_form l = inl refl

pub turned_form : (l : Layout) → IsFormOf l (turned l)
turned_form l = inr (inl refl)

pub planned_turned : (l : Layout) → IsPlanned l → IsPlanned (turned l)
planned_turned l planned = planned_alike l (other l.kind) planned

-- ---- roots

number_said : (l : Layout) → u32_at 4 (root_bytes l) ≡ layout_number l.kind
number_said l = from_be_bytes-to_be_bytes_4 (layout_number l.kind) (omega (arith, more_most l.kind))

numbers_differ : (kind : Kind) → layout_number kind ≡ layout_number (other kind) → ⊥
numbers_differ Two same = omega (arith, same)
numbers_differ Three same = omega (arith, same)

pub kind_differs : (kind : Kind) → kind ≡ other kind → ⊥
kind_differs kind same = numbers_differ kind (ap layout_number same)

pub roots_differ : (l : Layout) → root_bytes l ≡ root_bytes (turned l) → ⊥
roots_differ l same = numbers_differ l.kind (sym (number_said l) ∙ ap (u32_at 4) same ∙ number_said (turned l))
