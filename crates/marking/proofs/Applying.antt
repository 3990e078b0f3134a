-- A row applied to the edges.
use Rattle.std.proofs.Common.{◌≡◌, ℕ, Bool, true, false, ◌&&◌, T, ltb, leb, List, get_or, refl, arith}
use Rattle.std.proofs.lemmas.Bool.{leb-true, ltb-true, le-leb, lt-ltb, and_parts, and_from}
use Rattle.theory.specs.Graph.{Graph}
use Rattle.marking.specs.declared.nodes.Nodes.{Nodes}
use Rattle.marking.specs.declared.edges.Edges.{Edges}
use Rattle.marking.specs.Relations.{Adds, Down, Onto}
use Rattle.marking.specs.Nodes.{Drawn, Joins, Readers, Follows}
use Rattle.marking.proofs.Cells.{adds_as}
use Rattle.marking.proofs.Trails.{level_down}

-- the graph that the words draw
abbrev pub own_graph : Nodes → Graph
own_graph nodes = record { width = nodes.low; inner = λ x. leb nodes.low x && ltb x nodes.size; label = λ x. get_or nodes.labels.now x 0; next = λ x. get_or nodes.nexts.now x 0; first = λ i. 0 }

t_true : (b : Bool) → T b → b ≡ true
t_true true h = refl
t_true false h = absurd h

true_t : (b : Bool) → b ≡ true → T b
true_t true e = tt
true_t false e = absurd (let z : ◌≡◌ {A = ℕ} 0 1 = cc in omega arith)

pub own_drawn : (nodes : Nodes) → Drawn (own_graph nodes) nodes
own_drawn nodes = record {
  inner_from = λ x h. let p = and_parts (leb nodes.low x) (ltb x nodes.size) (t_true (leb nodes.low x && ltb x nodes.size) h) in (leb-true nodes.low x p.0, ltb-true x nodes.size p.1);
  inner_of = λ x h k. true_t (leb nodes.low x && ltb x nodes.size) (and_from (leb nodes.low x) (ltb x nodes.size) (le-leb nodes.low x h) (lt-ltb x nodes.size k));
  label = λ x h k. refl;
  next = λ x h k. refl;
}

module _ (edges : Edges) (word : List ℕ) (q : ℕ) (set : List ℕ) where
  pub last_down : ((g : Graph) → Drawn g edges.nodes → Readers g (Joins edges) word q edges.nodes.size set) → Down edges.cells.now edges.nodes.size set
  last_down r u z h m =
      let g : Graph = own_graph edges.nodes in
      let rg = r g (own_drawn edges.nodes) in
      rg.off u h.source (level_down g word q edges.order.transitive (rg.on z m) u h)

  pub last_adds : (b : List ℕ) (f : ℕ) → Adds edges.cells.now b edges.nodes.size edges.nodes.size (Onto edges.cells.now edges.nodes.size set f)
      → (g : Graph) → Readers g (Joins edges) word q edges.nodes.size set → Adds edges.cells.now b edges.nodes.size edges.nodes.size (Follows g edges.cells.now edges.nodes.size f word q)
  last_adds b f t g rg = adds_as _ t (λ u v r. (rg.on u r.0, r.1)) (λ u v hu hv r. (rg.off u hu r.0, r.1))
