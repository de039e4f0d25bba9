-- `Staff::missing`: what is returned.
use Rattle.std.proofs.Common.{arith, refl}
use Rattle.herd_office.proofs.office.Staff.missing.Goals as goal

pub returns-then-inspectors-from : goal.returns-then-inspectors-from
returns-then-inspectors-from g c =
    record {
      none = (λ is. absurd (cc is), λ there. absurd (omega (arith, there.1)));
      desk = (λ is. absurd (cc is), λ less. absurd (omega (arith, less)));
      inspector = (λ is. (omega arith, omega arith), λ less. refl);
    }

pub returns : goal.returns
returns g c =
    record {
      none = (λ is. (omega arith, omega arith), λ there. refl);
      desk = tt;
      inspector = tt;
    }
