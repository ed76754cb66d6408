-- Where what follows a record that is told leads.
-- Assumes nothing.
use mathlib.Core.Bool.{true}
use mathlib.Core.List.{List, ◌++◌}
use mathlib.Core.Path.{◌≡◌, sym, ap, ◌∙◌}
use Prim.Native.Nat.{ℕ, ◌+◌}
use native.Mathlib.Omega.{arith}
use lib.Dec.{leb}
use lib.ListN.{length, length-append}
use Rattle.rules.specs.Table.{behind_tolerances, tags}
use Rattle.rules.specs.Machine.{waiting, Ran, run}
use Rattle.rules.specs.Record.{Told, told, take_field, sheet_of}
use Rattle.laws.proofs.Sheets.{run_longer, leads_told, told_leads}

-- all fields of z are accepted from s on, no byte is left, and they lead to x
pub record Led (s : Told) (z : List ℕ) (x : Told) : Type 0 where
  pub state : (run tags take_field s z).state ≡ x
  pub used : (run tags take_field s z).used ≡ length z
  pub end : (run tags take_field s z).end ≡ waiting

module _ (a z : List ℕ) (s x : Told) (e : sheet_of a ≡ told s) where
  pub told_led : sheet_of (a ++ z) ≡ told x → Led s z x
  told_led f =
      let w = told_leads a s e in
      let d = sym (run_longer a s w.fields w.leads z) ∙ (told_leads (a ++ z) x f).leads in
      let u : length a + (run tags take_field s z).used ≡ length (a ++ z) = ap (λ (y : Ran Told). y.used) d in
      record { state = ap (λ (y : Ran Told). y.state) d; used = omega (arith, length-append a z); end = ap (λ (y : Ran Told). y.end) d }

  pub led_told : Led s z x → leb behind_tolerances x.place ≡ true → sheet_of (a ++ z) ≡ told x
  led_told h =
      let w = told_leads a s e in
      let n = w.fields + (run tags take_field s z).fields in
      let u : length a + (run tags take_field s z).used ≡ length (a ++ z) = omega (arith, h.used, length-append a z) in
      leads_told (a ++ z) x n (run_longer a s w.fields w.leads z ∙ (λ k. record { state = h.state k; fields = n; used = u k; end = h.end k }))
