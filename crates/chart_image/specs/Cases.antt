-- The image of document 01's chart S by its bytes (include/poztecameh.h), and what is taken from it.
use Rattle.std.specs.Prelude.{ℕ, ◌≡◌, refl, true, List, [], ◌∷◌, ◌++◌, length, get_or, replicate, set}
use Rattle.lists.specs.Places.{element_at, firsts, row, joined, up_to}
use Rattle.chart.specs.declared.Chart.{Chart}
use Rattle.chart.specs.Values.{no_station, no_link, no_chart, node_at, link_at}
use Rattle.chart.specs.Sample.{way_s, S, S'}
use Rattle.chart_read.specs.Fields.{bytes_from}
use Rattle.chart_write.specs.Writing.{direction_bytes, link_body}
use Rattle.chart_image.specs.Image.{node_image, chart_image, node_held, link_held, chart_in}
use Rattle.chart_image.specs.Promises.{used_chart, used_image}

-- 4 nodes and 6 links of the plain form, from 9/1 to 9/30; Control, Hill, Hill and Quay, each label in 24 bytes, and 12 unused places; the six links, and 42 unused places
unfoldable pub image_s : List ℕ
image_s =
    (4 ∷ 6 ∷ 2 ∷ 9 ∷ 0 ∷ 1 ∷ 9 ∷ 0 ∷ 30 ∷ [])
    ++ (9 ∷ 0 ∷ 1 ∷ 7 ∷ 67 ∷ 111 ∷ 110 ∷ 116 ∷ 114 ∷ 111 ∷ 108 ∷ replicate 17 0)
    ++ (9 ∷ 0 ∷ 20 ∷ 4 ∷ 72 ∷ 105 ∷ 108 ∷ 108 ∷ replicate 20 0)
    ++ (9 ∷ 0 ∷ 21 ∷ 4 ∷ 72 ∷ 105 ∷ 108 ∷ 108 ∷ replicate 20 0)
    ++ (9 ∷ 0 ∷ 30 ∷ 4 ∷ 81 ∷ 117 ∷ 97 ∷ 121 ∷ replicate 20 0)
    ++ replicate 336 0
    ++ (9 ∷ 0 ∷ 1 ∷ 2 ∷ 9 ∷ 0 ∷ 20 ∷ 1 ∷ 1 ∷ 0 ∷ [])
    ++ (9 ∷ 0 ∷ 1 ∷ 3 ∷ 9 ∷ 0 ∷ 21 ∷ 1 ∷ 1 ∷ 0 ∷ [])
    ++ (9 ∷ 0 ∷ 20 ∷ 2 ∷ 9 ∷ 0 ∷ 30 ∷ 1 ∷ 1 ∷ 0 ∷ [])
    ++ (9 ∷ 0 ∷ 21 ∷ 2 ∷ 9 ∷ 0 ∷ 30 ∷ 2 ∷ 1 ∷ 0 ∷ [])
    ++ (9 ∷ 0 ∷ 20 ∷ 3 ∷ 9 ∷ 0 ∷ 21 ∷ 3 ∷ 1 ∷ 0 ∷ [])
    ++ (9 ∷ 0 ∷ 1 ∷ 4 ∷ 9 ∷ 0 ∷ 30 ∷ 3 ∷ 0 ∷ 0 ∷ [])
    ++ replicate 420 0

-- S with other counts
abbrev pub counted_s : ℕ → ℕ → Chart
counted_s n m = record { nodes = record { count = n; items = S.nodes.items }; links = record { count = m; form = 2; items = S.links.items }; from = S.from; to = S.to }

pub record Cases : Type 0 where
  pub put : chart_image S ≡ image_s
  pub size : length image_s ≡ 937
  pub taken : chart_in image_s ≡ S
  -- a byte after the image is not looked at, nor is one at an unused place; a byte past the end counts as 0
  pub longer : chart_in (image_s ++ (8 ∷ [])) ≡ S
  pub unused : chart_in (set (set image_s 121 7) 517 7) ≡ S
  pub none : chart_in [] ≡ record { nodes = no_chart.nodes; links = record { count = 0; form = 0; items = no_chart.links.items }; from = no_station; to = no_station }
  -- the form, and a link that goes back
  pub form : (chart_image S' ≡ set image_s 2 4) × (chart_in (set image_s 2 4) ≡ S')
  pub back : link_held (set image_s 466 2) 0 ≡ way_s 1 2 20 1 true 2
  -- the last node and the last link past the counts: zeros
  pub left_out : (get_or (chart_image (counted_s 3 5)) 93 0 ≡ 0) × (get_or (chart_image (counted_s 3 5)) 507 0 ≡ 0)
  -- what is used: the first 3 nodes and 5 links; an image without the bytes at its unused places
  pub used : (used_chart (counted_s 3 5) ≡ chart_in (set (set image_s 0 3) 1 5)) × (used_image (set (set image_s 121 7) 517 7 ++ (8 ∷ [])) ≡ image_s)
  -- an on byte of 2 is no link's
  pub stray : link_held (set image_s 465 2) 0 ≡ no_link
  -- counts above the limits are taken and put as they are, and no place past the last is looked at
  pub many : chart_in (set (set image_s 0 17) 1 49) ≡ counted_s 17 49
  pub many_put : chart_image (counted_s 17 49) ≡ set (set image_s 0 17) 1 49

pub cases : Cases
unfolding S S' image_s element_at firsts row joined up_to no_chart node_at link_at bytes_from direction_bytes link_body node_image chart_image node_held link_held chart_in used_chart used_image
cases =
    record {
      put = refl;
      size = refl;
      taken = refl;
      longer = refl;
      unused = refl;
      none = refl;
      form = (refl, refl);
      back = refl;
      left_out = (refl, refl);
      used = (refl, refl);
      stray = refl;
      many = refl;
      many_put = refl;
    }
