-- The regions of a host stay on it behind an event with its cause, and where one more is there that is on it.
use Rattle.vm_kernel.proofs.Common.{ChainTable, Event, HasCause, Header, KnowsHomes, List, Outside, RegionRow, Some, ap, home_of, home_stays, homes_next}
use Rattle.vm_kernel.proofs.Common.{if◌then◌else◌, inl, inr, one_case, region_at, subst, sym, true, ℕ, ◌==◌, ◌∙◌, ◌∷◌, ◌≡◌}
use Rattle.vm_legal.specs.Licences.{is_paged}

pub homes_caused : (header : Header) (outside : Outside) (h : ℕ) (chains : ChainTable) (e : Event) (past : List Event) → HasCause header outside e past
    → KnowsHomes header h chains past → KnowsHomes header h chains (e ∷ past)
homes_caused header outside h chains e past cause homes =
    (λ r row paged found. home_stays r h e past (homes.0 r row paged found), homes_next header outside e past cause homes.1)

pub homes_put : (header : Header) (h : ℕ) (chains chains2 : ChainTable) (n : ℕ) (row : RegionRow) (past : List Event)
    → ((r : ℕ) → region_at chains2 r ≡ (if n == r then Some row else region_at chains r))
    → (is_paged header n ≡ true → home_of n past ≡ Some h) → KnowsHomes header h chains past → KnowsHomes header h chains2 past
homes_put header h chains chains2 n row past put home homes = (
  λ r found_row paged found. elim (one_case n r (Some row) (region_at chains r) (region_at chains2 r) (put r)) [
    | inl same ↦ subst (λ (z : ℕ). home_of z past ≡ Some h) same.0 (home (ap (is_paged header) same.0 ∙ paged))
    | inr apart ↦ homes.0 r found_row paged (sym apart.1 ∙ found)
  ],
  homes.1,
)
