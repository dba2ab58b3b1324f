-- Which refusals of one step another step may tell as well.
use Rattle.fsd_bytes.specs.declared.refusal.Refusal.{Refusal}
use Rattle.fsd_bytes.specs.declared.refusal.Refusal.TheVariants as Why
use Rattle.volume_contract.specs.Order.{IsFetch, IsLookUp}

-- a look-up fetches pages
pub fetch_looks : (why : Refusal) → IsFetch why → IsLookUp why
fetch_looks (Why.Unsound s) fetch = tt
fetch_looks why fetch = fetch
