use Rattle.std.proofs.Common.{refl, arith}
use Rattle.std.proofs.lemmas.Bool.Decides.{nat_tests}
use Rattle.gates.proofs.table_stands.Goals as goal

pub returns : goal.returns
returns c =
    record {
      reference_of_gate = λ g r. (λ e. grind (arith, nat_tests), λ e. grind (arith, nat_tests));
      reference_of_cell = λ r. (λ e. grind (arith, nat_tests), λ e. grind (arith, nat_tests));
      reference_of_module = λ m r. (λ e. grind (arith, nat_tests), λ e. grind (arith, nat_tests));
      reference_of_nothing = λ r. (λ e. (grind (arith, nat_tests), grind (arith, nat_tests)), λ h. grind (arith, nat_tests));
      low_is_0 = refl;
      high_is_1 = refl;
      buf_is_2 = refl;
      not_is_3 = refl;
      and_is_4 = refl;
      or_is_5 = refl;
      xor_is_6 = refl;
      nand_is_7 = refl;
      nor_is_8 = refl;
      xnor_is_9 = refl;
      pick_is_10 = refl;
      full = λ g. grind arith;
      low = refl;
      high = refl;
      buf = λ a. grind arith;
      not = λ a e. grind arith;
      and = λ a b. grind arith;
      or = λ a b. grind arith;
      xor = λ a b. grind arith;
      nand = λ a b. grind arith;
      nor = λ a b. grind arith;
      xnor = λ a b. grind arith;
      pick_first = λ first second. grind arith;
      pick_second = λ first second. grind arith;
    }
