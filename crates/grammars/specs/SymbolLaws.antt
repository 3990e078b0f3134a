-- The laws of grammar symbols as entries, from those of states. No definition to believe, only proofs.
use Rattle.std.specs.Prelude.{refl}
use Rattle.std.proofs.Common.{ap, arith}
use Rattle.entries.specs.Sorts.{Laws}
use Rattle.entries.specs.StateBytes.{states_laws}
use Rattle.grammars.specs.Symbols.{symbol, symbols}

pub symbols_laws : Laws symbols
symbols_laws =
    record {
      nonempty = omega arith;
      size = λ x h. refl;
      decodes = λ x rest h. refl;
      encodes = states_laws.encodes;
      local = λ bs h. ap symbol (states_laws.local bs h);
      same = λ x y h. ap symbol (states_laws.same x.0 y.0 h);
      itself = λ x. states_laws.itself x.0;
      flips = λ x y. states_laws.flips x.0 y.0;
      through = λ x y z. states_laws.through x.0 y.0 z.0;
    }
