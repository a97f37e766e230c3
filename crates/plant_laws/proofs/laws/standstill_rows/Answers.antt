-- Each row is computed: that its steps are granted, and that in the state after them nothing is.
use Rattle.std.proofs.Common.{refl, arith}
use Rattle.plant_laws.specs.Standstills.{routes_end_anywhere, exit_is_small, follows_on_itself, any_order, back_at_once, again_at_once}
use Rattle.plant_laws.specs.SmallPlant.{small_plant}
use Rattle.plant_laws.proofs.SmallPlant.{ends_on-keeps, units-keep, two_places-keep}
use Rattle.plant_laws.proofs.Standstills.{stops, rules_heed, last_enters_heeds, passed_at_once_heeds, loaded_at_once_heeds}
use Rattle.plant_laws.proofs.laws.standstill_rows.Goals as goal

pub returns : goal.returns
returns c = record {
  routes_end_anywhere = (ends_on-keeps _ (omega arith), stops routes_end_anywhere (rules_heed _) refl (λ job. refl));
  exit_is_small = (units-keep _ (omega arith, omega arith), stops exit_is_small (rules_heed _) refl (λ job. refl));
  follows_on_itself = (two_places-keep _ _ (omega arith) (omega arith), stops follows_on_itself (rules_heed _) refl (λ job. refl));
  any_order = stops any_order (last_enters_heeds small_plant) refl (λ job. refl);
  passed_at_once = stops back_at_once (passed_at_once_heeds small_plant) refl (λ job. refl);
  loaded_at_once = stops again_at_once (loaded_at_once_heeds small_plant) refl (λ job. refl);
}
